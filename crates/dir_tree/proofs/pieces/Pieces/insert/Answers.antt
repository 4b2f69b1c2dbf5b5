use Rattle.std.proofs.Common.{◌≡◌, ◌≤◌, length, sym, ap, subst, ◌∙◌, arith}
use Rattle.std.specs.List.{insert}
use Rattle.std.proofs.lemmas.List.Edits.{insert_end, length-insert}
use Rattle.dir_tree.specs.Inside.Pieces.{AreFilled, IsPlace, joined}
use Rattle.dir_tree.proofs.pieces.Pieces.insert.Goals as goal
use Rattle.dir_tree.proofs.pieces.Pieces.insert.Goals.{then-at-self+then-is_last_full+in_ok-push_piece, else-at-self+in_ok-place+in_ok-insert_at}

pub returns-clause-ok : goal.returns-clause-ok
returns-clause-ok g c =
    let pieces = c.self.inside.pieces.items in
    let grown : joined c.if-at-self.self-inside.pieces.items ≡ insert (joined pieces) c.args.at c.args.value =
    elim c.if-at-self.branch [
      | then-at-self+then-is_last_full+in_ok-push_piece w ↦
          ap (λ s. joined s.pieces.items) w.self-inside-is ∙ w.in_ok-push_piece.ensures.ok
          ∙ sym (ap (λ n. insert (joined pieces) n c.args.value) (w.if-at-self.true ∙ c.self.invariant.0) ∙ insert_end (joined pieces) c.args.value)
      | else-at-self+in_ok-place+in_ok-insert_at w ↦
          let place = subst (λ row. IsPlace row w.place_before-place.result.piece w.place_before-place.result.within c.args.at) w.as_slice-else-at-self.ensures.value w.place_before-place.ensures in
          ap (λ s. joined s.pieces.items) w.self-inside-is ∙ w.in_ok-insert_at.ensures.ok c.args.at (w.in_ok-place.ensures.place c.args.at place)
          ∙ ap (λ values. insert values c.args.at c.args.value) w.place_with_room.ensures.joined
    ] in
    grown ∙ ap (λ values. insert values c.args.at c.args.value) c.self.view_is

pub invariant_of-self-2 : goal.invariant_of-self-2
invariant_of-self-2 g c =
    let pieces = c.self.inside.pieces.items in
    let grown : (joined c.if-at-self.self-inside.pieces.items ≡ insert (joined pieces) c.args.at c.args.value) × (c.if-at-self.self-inside.len ≡ c.self.inside.len) × AreFilled 1024 c.if-at-self.self-inside.pieces.items =
    elim c.if-at-self.branch [
      | then-at-self+then-is_last_full+in_ok-push_piece w ↦ (
        ap (λ s. joined s.pieces.items) w.self-inside-is ∙ w.in_ok-push_piece.ensures.ok
            ∙ sym (ap (λ n. insert (joined pieces) n c.args.value) (w.if-at-self.true ∙ c.self.invariant.0) ∙ insert_end (joined pieces) c.args.value),
        ap (λ s. s.len) w.self-inside-is,
        subst (λ s. AreFilled 1024 s.pieces.items) (sym w.self-inside-is) (w.in_ok-push_piece.ensures.filled c.self.invariant.1),
      )
      | else-at-self+in_ok-place+in_ok-insert_at w ↦
          let place = subst (λ row. IsPlace row w.place_before-place.result.piece w.place_before-place.result.within c.args.at) w.as_slice-else-at-self.ensures.value w.place_before-place.ensures in (
            ap (λ s. joined s.pieces.items) w.self-inside-is ∙ w.in_ok-insert_at.ensures.ok c.args.at (w.in_ok-place.ensures.place c.args.at place)
                ∙ ap (λ values. insert values c.args.at c.args.value) w.place_with_room.ensures.joined,
            ap (λ s. s.len) w.self-inside-is,
            subst (λ s. AreFilled 1024 s.pieces.items) (sym w.self-inside-is) (w.in_ok-insert_at.ensures.filled w.in_ok-place.ensures.room w.place_with_room.ensures.filled),
          )
    ] in
    let there : c.args.at ≤ length (joined pieces) = subst (λ values. c.args.at ≤ length values) (sym c.self.view_is) c.requires in
    (omega (arith, ap length grown.0, grown.1, c.self.invariant.0, length-insert (joined pieces) c.args.at c.args.value there), grown.2)
