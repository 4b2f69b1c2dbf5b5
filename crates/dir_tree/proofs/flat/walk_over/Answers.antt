use Rattle.std.proofs.Common.{◌≡◌, ◌-◌, List, [], ◌∷◌, ◌++◌, map, reverse, take, length, arith, sym, ap, subst, ◌∙◌}
use Rattle.std.specs.List.{flat_map}
use Rattle.dir_names.specs.Names.{SpelledName}
use Rattle.dir_tree.specs.Dir.{Dir, dir_over}
use Rattle.dir_tree.specs.SpelledNames.{own_depth, spelled_name}
use Rattle.dir_tree.proofs.SpelledLemmas.{spelled_short}
use Rattle.dir_tree.proofs.Walk.{Ahead, one_more, stacked, start_ahead, all_left, next_name, next_ahead}
use Rattle.dir_tree.proofs.flat.walk_over.Goals as goal
use Rattle.dir_tree.proofs.flat.walk_over.Goals.{In_ok-rdns}

pub loop-key-init : goal.loop-key-init
loop-key-init c =
    let d : Dir = dir_over c.args.suffix.now c.args.entries.now.entries in
    let all : c.into_iter-key-iterator.result ≡ c.args.entries.now.entries = c.into_iter-key-iterator.ensures.into_iter_gives.0 in
    record {
      so_far = (λ i. map (λ item. (item.0, item.1.now)) (c.in_ok-walk.ensures.items i) ++ map (λ p. (spelled_name d p.0, p.1)) (all i)) ∙ all_left c.args.suffix.now c.args.entries.now.entries c.requires.closed c.len.ensures.ordered;
      ahead =
          subst (Ahead d (map (λ own. own.now) c.new-path.result.items)) (sym all)
          (subst (λ path. Ahead d (map (λ own. own.now) path) c.args.entries.now.entries) (sym c.new-path.ensures.items)
          (start_ahead c.args.suffix.now c.args.entries.now.entries c.requires.closed c.len.ensures.ordered));
    }

-- the own names on the path of the entry
on_path : (c : In_ok-rdns) → map (λ own. own.now) c.push.new.self.items ≡ take (length c.in-Some.key.now - length c.args.suffix.now) (map (λ own. own.now) c.loop-key.path.items) ++ take (own_depth c.args.suffix.now c.in-Some.key.now) c.in-Some.entry.now.own ∷ []
on_path c =
    ap (map (λ own. own.now)) (c.in_ok-push.ensures.items ∙ ap (λ path. path ++ c.spelled_own.result ∷ []) c.truncate.ensures.items)
    ∙ stacked (λ own. own.now) (c.depth.result - c.depth-in-loop-key.result) c.loop-key.path.items c.spelled_own.result
    ∙ (λ i. take (c.depth.ensures.value i - c.depth-in-loop-key.ensures.value i) (map (λ own. own.now) c.loop-key.path.items) ++ (c.spelled_own.ensures ∙ ap (take (own_depth c.args.suffix.now c.in-Some.key.now)) c.own.ensures) i ∷ [])

spelled : (c : In_ok-rdns) → c.in_ok-rdns.rdns.items ≡ spelled_name (dir_over c.args.suffix.now c.args.entries.now.entries) c.in-Some.key.now
spelled c =
    let path : List SpelledName = map (λ own. own.now) c.loop-key.path.items in
    c.in_ok-rdns.ensures
    ∙ (λ i. flat_map (λ own. own) (reverse (map (λ own. own.now) (c.as_slice.ensures.value i))))
    ∙ next_name c.args.suffix.now c.args.entries.now.entries c.requires.closed path c.loop-key.key-iterator c.loop-key.invariant.ahead c.in-Some.key.now c.in-Some.entry.now c.next.new.self c.in-Some.ensures.steps (map (λ own. own.now) c.push.new.self.items) (on_path c)

pub of_rdns-requires : goal.of_rdns-requires
of_rdns-requires c =
    let same = ap length (spelled (goal.at.of_rdns-requires c).In_ok-rdns) in
    let short = spelled_short (dir_over c.args.suffix.now c.args.entries.now.entries) c.requires.closed c.in-Some.key.now in
    let low = c.depth.ensures.within_limit in
    omega (arith, same, short, low)

pub loop-key-preserved : goal.loop-key-preserved
loop-key-preserved c =
    let s : In_ok-rdns = (goal.at.loop-key-preserved c).In_ok-rdns in
    let d : Dir = dir_over c.args.suffix.now c.args.entries.now.entries in
    let path : List SpelledName = map (λ own. own.now) c.loop-key.path.items in
    let name : c.of_rdns.result ≡ spelled_name d c.in-Some.key.now = c.of_rdns.ensures ∙ spelled s in
    record {
      so_far =
          ap (λ walk. map (λ item. (item.0, item.1.now)) walk ++ map (λ p. (spelled_name d p.0, p.1)) c.next.new.self) c.in_ok-push-2.ensures.items
          ∙ one_more (λ item. (item.0, item.1.now)) (λ p. (spelled_name d p.0, p.1)) c.loop-key.walk.items (c.of_rdns.result, c.in-Some.entry) (c.in-Some.key.now, c.in-Some.entry.now) c.next.new.self (ap (λ n. (n, c.in-Some.entry.now)) name)
          ∙ ap (λ left. map (λ item. (item.0, item.1.now)) c.loop-key.walk.items ++ map (λ p. (spelled_name d p.0, p.1)) left) (sym c.in-Some.ensures.steps)
          ∙ c.loop-key.invariant.so_far;
      ahead = next_ahead c.args.suffix.now c.args.entries.now.entries c.requires.closed path c.loop-key.key-iterator c.loop-key.invariant.ahead c.in-Some.key.now c.in-Some.entry.now c.next.new.self c.in-Some.ensures.steps (map (λ own. own.now) c.push.new.self.items) (on_path s);
    }
