use Rattle.std.proofs.Common.{◌≡◌, ℕ, zero, suc, List, [], ◌∷◌, ◌++◌, length, slice_get, Some, Ok, refl, sym, ap, ◌∙◌, arith, rules}
use Rattle.dir_names.specs.declared.value.ValueKey.TheVariants.{Text}
use Rattle.dir_tree.specs.Inside.Packed.{key_in, name_or_none, part_of}
use Rattle.dir_names.specs.ValueKeys.Pushed.{pushed_key}
use Rattle.dir_tree.proofs.PackedLists.{part-append, part-appended}
use Rattle.dir_tree.proofs.packed.pattern.pooled_line.Goals as goal
use Rattle.dir_tree.proofs.packed.pattern.pooled_line.Goals.{in-Same, in-Appended+in_ok-ok-in-Appended, in-Name+in_ok-at-in-Name+in_ok-ok-in-Name}

last_item : {A : Type 0} (xs : List A) (x : A) (n : ℕ) → n ≡ length xs → slice_get (xs ++ x ∷ []) n ≡ Some x
last_item [] x zero e = refl
last_item [] x (suc n) e = absurd (omega (arith, e))
last_item (y ∷ xs) x zero e = absurd (omega (arith, e))
last_item (y ∷ xs) x (suc n) e = last_item xs x n (omega (arith, e))

pub returns-clause-key : goal.returns-clause-key
returns-clause-key c =
    let before = c.args.pool.text.items in
    let text = c.extend_from_slice.new.self.items in
    let all = c.push_value_key.new.text.items in
    let bytes = c.args.bytes.now in
    let told = c.in-Ok.ensures.key in
    let more = told.0 in
    let first : text ≡ before ++ bytes = search rules in
    let from : c.in_ok-start.start ≡ length before = search rules in
    let to : c.in_ok-end.end ≡ length text = search rules in
    let value : part_of all c.in_ok-start.start c.in_ok-end.end ≡ bytes =
    ap (λ t. part_of t c.in_ok-start.start c.in_ok-end.end) told.1
    ∙ part-append text more c.in_ok-start.start c.in_ok-end.end (omega (arith, to))
    ∙ ap (λ t. part_of t c.in_ok-start.start c.in_ok-end.end) first
    ∙ part-appended before bytes c.in_ok-start.start c.in_ok-end.end from (to ∙ ap length first) in
    told.2
    ∙ elim c.match-pushed.branch [
      | in-Same w ↦
          ap (λ p. Ok (pushed_key p bytes more)) w.in-Same.is
          ∙ ap (λ b. Ok (Text b)) (sym value)
          ∙ ap (λ k. Ok (key_in all c.match-pushed.names.items c.in_ok-start.start c.in_ok-end.end k)) (sym w.key-is)
      | in-Appended+in_ok-ok-in-Appended w ↦
          let end : w.in_ok-ok-in-Appended.field-0 ≡ length all = search rules in
          let key : part_of all c.in_ok-end.end w.in_ok-ok-in-Appended.field-0 ≡ more =
          ap (λ t. part_of t c.in_ok-end.end w.in_ok-ok-in-Appended.field-0) told.1
          ∙ part-appended text more c.in_ok-end.end w.in_ok-ok-in-Appended.field-0 to (end ∙ ap length told.1) in
          ap (λ p. Ok (pushed_key p bytes more)) w.in-Appended.is
          ∙ ap (λ b. Ok (Text b)) (sym key)
          ∙ ap (λ k. Ok (key_in all c.match-pushed.names.items c.in_ok-start.start c.in_ok-end.end k)) (sym w.key-is)
      | in-Name+in_ok-at-in-Name+in_ok-ok-in-Name w ↦
          let at : w.in_ok-at-in-Name.at ≡ length c.args.pool.names.items = search rules in
          let names : c.match-pushed.names.items ≡ c.args.pool.names.items ++ w.in-Name.name ∷ [] = search rules in
          ap (λ p. Ok (pushed_key p bytes more)) w.in-Name.is
          ∙ ap (λ o. Ok (name_or_none o)) (sym (ap (λ ns. slice_get ns w.in_ok-at-in-Name.at) names ∙ last_item c.args.pool.names.items w.in-Name.name w.in_ok-at-in-Name.at at))
          ∙ ap (λ k. Ok (key_in all c.match-pushed.names.items c.in_ok-start.start c.in_ok-end.end k)) (sym w.key-is)
    ]
