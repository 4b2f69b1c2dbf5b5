use Rattle.std.proofs.Common.{◌≡◌, [], ◌∷◌, true, get_or, subst, sym, ◌∙◌, rules}
use Rattle.std.specs.Int.{w128, from_be_bytes}
use Rattle.dir_names.specs.Inside.Starts.{IsStart}
use Rattle.dir_names.proofs.StartLemmas.{are_bytes, bytes_from, start_is}
use Rattle.dir_names.proofs.attribute.options.start_of.Goals as goal

pub returns : goal.returns
returns c =
    let text = c.args.text.now in
    let number : c.from_be_bytes.result ≡ from_be_bytes w128 (bytes_from 16 (λ i. get_or text i 0)) = c.from_be_bytes.ensures ∙ (λ i. from_be_bytes w128 (c.byte_at.ensures.is i ∷ c.byte_at-2.ensures.is i ∷ c.byte_at-3.ensures.is i ∷ c.byte_at-4.ensures.is i ∷ c.byte_at-5.ensures.is i ∷ c.byte_at-6.ensures.is i ∷ c.byte_at-7.ensures.is i ∷ c.byte_at-8.ensures.is i ∷ c.byte_at-9.ensures.is i ∷ c.byte_at-10.ensures.is i ∷ c.byte_at-11.ensures.is i ∷ c.byte_at-12.ensures.is i ∷ c.byte_at-13.ensures.is i ∷ c.byte_at-14.ensures.is i ∷ c.byte_at-15.ensures.is i ∷ c.byte_at-16.ensures.is i ∷ [])) in
    let small : are_bytes (bytes_from 16 (λ i. get_or text i 0)) ≡ true = search (rules, c.byte_at.ensures.small, c.byte_at-2.ensures.small, c.byte_at-3.ensures.small, c.byte_at-4.ensures.small, c.byte_at-5.ensures.small, c.byte_at-6.ensures.small, c.byte_at-7.ensures.small, c.byte_at-8.ensures.small, c.byte_at-9.ensures.small, c.byte_at-10.ensures.small, c.byte_at-11.ensures.small, c.byte_at-12.ensures.small, c.byte_at-13.ensures.small, c.byte_at-14.ensures.small, c.byte_at-15.ensures.small, c.byte_at-16.ensures.small) in
    subst (IsStart text) (sym number) (start_is text small)
