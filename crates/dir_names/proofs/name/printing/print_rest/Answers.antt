use Rattle.std.proofs.Common.{◌≡◌, ◌∷◌, ◌++◌, [], cond, Ok, ap, sym, ◌∙◌, append_assoc, rules}
use Rattle.std.specs.Prelude.{◌==◌}
use Rattle.std.specs.List.{flat_map}
use Rattle.dir_names.specs.Names.Printing.{escape_of, printed_byte, printed_rest}
use Rattle.dir_names.proofs.PrintLemmas.{rest-snoc}
use Rattle.dir_names.proofs.name.printing.print_rest.Goals as goal

pub returns : goal.returns
returns c =
    let old = c.args.out.now.items in
    let last = c.in-Some.last.now in
    let parted : c.args.rest.now ≡ c.in-Some.middle.now ++ last ∷ [] = search rules in
    let first : c.put_bytes.new.out.items ≡ old ++ flat_map printed_byte c.in-Some.middle.now = search rules in
    let rest : c.put_byte.new.out.items ≡ c.put_bytes.new.out.items ++ cond (last == 32) (escape_of last) (printed_byte last) = search rules in
    ap Ok (ap (λ l. old ++ printed_rest l) parted ∙ ap (λ l. old ++ l) (rest-snoc c.in-Some.middle.now last)
    ∙ sym (append_assoc old (flat_map printed_byte c.in-Some.middle.now) (cond (last == 32) (escape_of last) (printed_byte last)))
    ∙ ap (λ l. l ++ cond (last == 32) (escape_of last) (printed_byte last)) (sym first) ∙ sym rest)
