use Rattle.std.proofs.Common.{◌≡◌, true, nat_lt, [], ◌∷◌, ◌++◌, Ok, sym, ap, ◌∙◌, append_assoc, rules}
use Rattle.std.specs.List.{flat_map, list_all}
use Rattle.dir_names.specs.Inside.SortTexts.{marked_byte}
use Rattle.dir_names.proofs.SortOrder.{marked_plain}
use Rattle.dir_names.proofs.key.sorting.put_text.Goals as goal
use Rattle.dir_names.proofs.key.sorting.put_text.Goals.{then-is_plain+in_ok-extend_from_slice, else-is_plain+in_ok-put_marked}

pub returns : goal.returns
returns c =
    let old = c.args.out.now.items in
    let text = c.args.text.now in
    let body : c.if-is_plain.out.items ≡ old ++ flat_map marked_byte text = elim c.if-is_plain.branch [
      | then-is_plain+in_ok-extend_from_slice w ↦
          let plain : list_all (λ b. nat_lt 1 b) text ≡ true = search rules in
          let put : c.if-is_plain.out.items ≡ old ++ text = search rules in
          put ∙ ap (λ l. old ++ l) (sym (marked_plain text plain))
      | else-is_plain+in_ok-put_marked w ↦ search rules
    ] in
    let ended : c.push.new.self.items ≡ c.if-is_plain.out.items ++ 0 ∷ [] = search rules in
    ap Ok (sym (append_assoc old (flat_map marked_byte text) (0 ∷ [])) ∙ ap (λ l. l ++ 0 ∷ []) (sym body) ∙ sym ended)
