-- The entries of a copy that waited to its end: each is put under its parent, or is an orphan.
use Rattle.std.proofs.Common.{◌≡◌, ℕ, ◌≤◌, Bool, true, false, cond, not, ◌||◌, nat_lt, List, [], ◌∷◌, map, Option, None, Some, is_some, Ok, Err, IfSome, refl, sym, ap, subst, ◌∙◌, true≢false, arith}
use Rattle.std.specs.Ordering.{is_eq, eq_by_cmp}
use Rattle.std.specs.Cmp.{eq_by_cmp_equiv, tied_itself}
use Rattle.std.specs.declared.cmp.Ordering.TheVariants.{Less}
use Rattle.std.specs.List.{filter, list_any, AllByRecursion}
use Rattle.std.specs.List.Sorted.{IsStrictlySortedBy}
use Rattle.std.specs.Map.{keys_of, lookup}
use Rattle.std.specs.BTreeMap.{is_at}
use Rattle.std.specs.BTreeSet.{BTreeSet, contains}
use Rattle.std.specs.FinMap as fin
use Rattle.std.specs.FinMap.{find, get-entries, same_map}
use Rattle.std.proofs.lemmas.Bool.Decides.{nat_tests}
use Rattle.dir_names.specs.Keys.{DnKeys, parent_of}
use Rattle.dir_names.specs.Orders.{dn_key_cmp, dn_key_cmp_total, dn_key_cmp_exact, dn_key_eq}
use Rattle.dir_tree.specs.Content.{Content}
use Rattle.dir_tree.specs.Dir.{Dir, IsClosed, entry_at, has_parent, is_there, put_entry}
use Rattle.dir_tree.specs.WellFormed.{Each}
use Rattle.dir_tree.proofs.DirLemmas.{closed_put, get_put, parent_child, same_key}
use Rattle.dir_tree.proofs.NextKey.{before_below}
use Rattle.dir_change.specs.declared.result_code.ResultCode.TheVariants.{NoSuchObject}
use Rattle.dir_tools.specs.declared.copy.loading.Waiting.{Waiting}
use Rattle.dir_tools.specs.declared.fault.Cause.TheVariants as cause
use Rattle.dir_tools.specs.CopyOf.{LoadedCopy, earlier_line, first_line, line_or_zero, unless_orphan, whole_directory}
use Rattle.dir_tools.specs.Inside.Loading.{AllWait, IsMadeOf, is_among, waiting_or}
use Rattle.dir_tools.proofs.CopyBack.{all_filtered, entries_stand}

-- ---- the entries that wait, in order of keys

abbrev pub waits : List (DnKeys × Waiting) → DnKeys → Option Waiting
waits es q = lookup (is_at (dn_key_cmp q)) es

absent : (k : DnKeys) (es : List (DnKeys × Waiting)) → AllByRecursion (λ y. dn_key_cmp k y ≡ Less) (keys_of es) → waits es k ≡ None
absent k [] h = refl
absent k (e ∷ es) h = ap (λ o. cond (is_eq o) (Some e.1) (waits es k)) h.0 ∙ absent k es h.1

pub absent_later : (k : DnKeys) (w : Waiting) (es : List (DnKeys × Waiting)) → IsStrictlySortedBy dn_key_cmp (keys_of ((k, w) ∷ es)) → waits es k ≡ None
unfolding IsStrictlySortedBy
absent_later k w es h = absent k es h.0

pub ordered_later : (k : DnKeys) (w : Waiting) (es : List (DnKeys × Waiting)) → IsStrictlySortedBy dn_key_cmp (keys_of ((k, w) ∷ es)) → IsStrictlySortedBy dn_key_cmp (keys_of es)
unfolding IsStrictlySortedBy
ordered_later k w es h = h.1

all_after : (p k : DnKeys) → dn_key_cmp p k ≡ Less → (ks : List DnKeys) → AllByRecursion (λ y. dn_key_cmp k y ≡ Less) ks → AllByRecursion (λ y. dn_key_cmp p y ≡ Less) ks
all_after p k l [] h = tt
all_after p k l (y ∷ ys) h = (dn_key_cmp_total.trans p k y l h.0, all_after p k l ys h.1)

-- what is before the first of them doesn't wait
absent_before : (p k : DnKeys) (w : Waiting) (es : List (DnKeys × Waiting)) → dn_key_cmp p k ≡ Less → IsStrictlySortedBy dn_key_cmp (keys_of ((k, w) ∷ es)) → waits ((k, w) ∷ es) p ≡ None
unfolding IsStrictlySortedBy
absent_before p k w es l h = absent p ((k, w) ∷ es) (l, all_after p k l (keys_of es) h.0)

waits_first : (k : DnKeys) (w : Waiting) (es : List (DnKeys × Waiting)) → waits ((k, w) ∷ es) k ≡ Some w
waits_first k w es = ap (λ o. cond (is_eq o) (Some w) (waits es k)) (tied_itself dn_key_cmp_total k)

waits_later : (k q : DnKeys) (w : Waiting) (es : List (DnKeys × Waiting)) → eq_by_cmp dn_key_cmp q k ≡ false → waits ((k, w) ∷ es) q ≡ waits es q
waits_later k q w es t = λ i. cond (t i) (Some w) (waits es q)

-- a later one has another key
others_later : (k q : DnKeys) (es : List (DnKeys × Waiting)) (x : Waiting) → waits es k ≡ None → waits es q ≡ Some x → eq_by_cmp dn_key_cmp q k ≡ false
others_later k q es x gone there = by (eq_by_cmp dn_key_cmp q k) refl
  where
    none_some : None ≡ Some x → ⊥
    none_some h = cc

    by : (b : Bool) → eq_by_cmp dn_key_cmp q k ≡ b → b ≡ false
    by true t = absurd (none_some (sym gone ∙ sym (ap (waits es) (same_key q k t)) ∙ there))
    by false t = refl

-- ---- the entries so far

abbrev pub line_at : LoadedCopy → DnKeys → ℕ
line_at m k = line_or_zero (fin.get m.lines k)

-- the first line of those among these keys whose parent is missing
abbrev pub IsLeast : LoadedCopy → BTreeSet DnKeys → Option ℕ → Type 0
IsLeast m keys None = (k : DnKeys) → contains dn_key_cmp keys k ≡ false
IsLeast m keys (Some n) =
    ((k : DnKeys) × (contains dn_key_cmp keys k ≡ true) × (has_parent m.entries k ≡ false) × (line_at m k ≡ n))
    × ((k : DnKeys) → contains dn_key_cmp keys k ≡ true → has_parent m.entries k ≡ false → n ≤ line_at m k)

-- the entries of a copy: those in the directory, those that still wait, and the orphans with their first line
pub record IsSplit (m : LoadedCopy) (waiting : DnKeys → Option Waiting) (keys : BTreeSet DnKeys) (first : Option ℕ) (standing : Dir) : Type 0 where
  pub suffix : m.entries.suffix ≡ standing.suffix
  pub closed : IsClosed standing
  pub others : (k : DnKeys) → contains dn_key_cmp keys k ≡ false → entry_at m.entries k ≡ waiting_or (waiting k) (entry_at standing k)
  pub orphans : (k : DnKeys) → contains dn_key_cmp keys k ≡ true → is_some (entry_at m.entries k) ≡ true
  pub wait : AllWait m waiting standing
  pub apart : (k : DnKeys) (w : Waiting) → waiting k ≡ Some w → contains dn_key_cmp keys k ≡ false
  pub least : IsLeast m keys first

pub split_begun : (m : LoadedCopy) (waiting : DnKeys → Option Waiting) (keys : BTreeSet DnKeys) (standing : Dir) → keys.keys ≡ [] → IsMadeOf m.entries waiting standing → AllWait m waiting standing
    → IsSplit m waiting keys None standing
split_begun m waiting keys standing bare made all = record {
  suffix = made.0;
  closed = made.1;
  others = λ k _. made.2 k;
  orphans = λ k there. absurd (true≢false (sym there ∙ none k));
  wait = all;
  apart = λ k w _. none k;
  least = none;
}
  where
    none : (k : DnKeys) → contains dn_key_cmp keys k ≡ false
    none k = ap (list_any (is_at (dn_key_cmp k))) bare

-- ---- an entry is put

pub split_put : (m : LoadedCopy) (keys : BTreeSet DnKeys) (first : Option ℕ) (standing next : Dir) (k : DnKeys) (w : Waiting) (es : List (DnKeys × Waiting))
    → waits es k ≡ None → has_parent standing k ≡ true → next ≡ put_entry standing k w.entry
    → IsSplit m (waits ((k, w) ∷ es)) keys first standing → IsSplit m (waits es) keys first next
split_put m keys first standing next k w es gone parent is was = subst (IsSplit m (waits es) keys first) (sym is) (record {
  suffix = was.suffix;
  closed = closed_put standing k w.entry was.closed parent;
  others = λ q o. was.others q o ∙ put q (eq_by_cmp dn_key_cmp q k) refl ∙ ap (waiting_or (waits es q)) (sym (get_put standing k w.entry q));
  orphans = was.orphans;
  wait = λ q x there.
      let other = others_later k q es x gone there in
      let waited = was.wait q x (waits_later k q w es other ∙ there) in
      (get_put standing k w.entry q ∙ (λ i. cond (other i) (Some w.entry) (entry_at standing q)) ∙ waited.0, waited.1);
  apart = λ q x there. was.apart q x (waits_later k q w es (others_later k q es x gone there) ∙ there);
  least = was.least;
})
  where
    put : (q : DnKeys) (b : Bool) → eq_by_cmp dn_key_cmp q k ≡ b → waiting_or (cond b (Some w) (waits es q)) (entry_at standing q) ≡ waiting_or (waits es q) (cond b (Some w.entry) (entry_at standing q))
    put q true t = ap (λ o. waiting_or o (Some w.entry)) (sym (ap (waits es) (same_key q k t) ∙ gone))
    put q false t = refl

-- ---- an entry is an orphan

left_false : (a b : Bool) → (a || b) ≡ false → a ≡ false
left_false true b h = h
left_false false b h = refl

right_false : (a b : Bool) → (a || b) ≡ false → b ≡ false
right_false true b h = absurd (true≢false h)
right_false false b h = h

-- its parent is in the copy where that is an orphan itself
parent_among : (m : LoadedCopy) (keys : BTreeSet DnKeys) (first : Option ℕ) (standing : Dir) (k : DnKeys) (w : Waiting) (es : List (DnKeys × Waiting))
    → IsStrictlySortedBy dn_key_cmp (keys_of ((k, w) ∷ es)) → has_parent standing k ≡ false
    → IsSplit m (waits ((k, w) ∷ es)) keys first standing → has_parent m.entries k ≡ is_among keys (parent_of k)
parent_among m keys first standing k w es ordered alone was =
    ap (λ s. dn_key_eq k s || is_there m.entries (parent_of k)) was.suffix
    ∙ ap (λ b. b || is_there m.entries (parent_of k)) (left_false (dn_key_eq k standing.suffix) (is_there standing (parent_of k)) alone)
    ∙ above (parent_of k) refl (right_false (dn_key_eq k standing.suffix) (is_there standing (parent_of k)) alone)
  where
    among : (p : DnKeys) → dn_key_cmp p k ≡ Less → is_some (entry_at standing p) ≡ false → (b : Bool) → contains dn_key_cmp keys p ≡ b → is_some (entry_at m.entries p) ≡ b
    among p l h true t = was.orphans p t
    among p l h false t = ap is_some (was.others p t ∙ ap (λ o. waiting_or o (entry_at standing p)) (absent_before p k w es l ordered)) ∙ h

    above : (o : Option DnKeys) → parent_of k ≡ o → is_there standing o ≡ false → is_there m.entries o ≡ is_among keys o
    above None t h = refl
    above (Some p) t h =
        let child = parent_child k p t in
        among p (subst (λ z. dn_key_cmp p z ≡ Less) (sym child.1) (before_below p child.0 [])) h (contains dn_key_cmp keys p) refl

none_among : (keys : BTreeSet DnKeys) → ((k : DnKeys) → contains dn_key_cmp keys k ≡ false) → (o : Option DnKeys) → is_among keys o ≡ false
none_among keys none None = refl
none_among keys none (Some k) = none k

module _ (m : LoadedCopy) (keys keys' : BTreeSet DnKeys) (k : DnKeys) (updates : (q : DnKeys) → contains dn_key_cmp keys' q ≡ cond (is_at (dn_key_cmp k) q) true (contains dn_key_cmp keys q)) where
  updated : (q : DnKeys) → contains dn_key_cmp keys' q ≡ cond (eq_by_cmp dn_key_cmp q k) true (contains dn_key_cmp keys q)
  updated q = updates q ∙ ap (λ b. cond b true (contains dn_key_cmp keys q)) ((eq_by_cmp_equiv dn_key_cmp_total).symm k q)

  added : contains dn_key_cmp keys' k ≡ true
  added = updated k ∙ ap (λ o. cond (is_eq o) true (contains dn_key_cmp keys k)) (tied_itself dn_key_cmp_total k)

  kept : (q : DnKeys) → contains dn_key_cmp keys q ≡ true → contains dn_key_cmp keys' q ≡ true
  kept q there = updated q ∙ ap (cond (eq_by_cmp dn_key_cmp q k) true) there ∙ either (eq_by_cmp dn_key_cmp q k)
    where
      either : (b : Bool) → cond b true true ≡ true
      either true = refl
      either false = refl

  -- what holds of k and of all keys before, holds of all
  each : (P : DnKeys → Type 0) → P k → ((q : DnKeys) → contains dn_key_cmp keys q ≡ true → P q) → (q : DnKeys) → contains dn_key_cmp keys' q ≡ true → P q
  each P here others q there = by (eq_by_cmp dn_key_cmp q k) refl (sym (updated q) ∙ there)
    where
      by : (b : Bool) → eq_by_cmp dn_key_cmp q k ≡ b → cond b true (contains dn_key_cmp keys q) ≡ true → P q
      by true t h = subst P (sym (same_key q k t)) here
      by false t h = others q h

  abbrev After : ℕ → DnKeys → Type 0
  After n q = has_parent m.entries q ≡ false → n ≤ line_at m q

  least_more : (line : ℕ) (below : Bool) (first : Option ℕ) → line_at m k ≡ line → has_parent m.entries k ≡ below → is_among keys (parent_of k) ≡ below
      → IsLeast m keys first → IsLeast m keys' (cond below first (earlier_line line first))
  least_more line true None is parent among least = absurd (true≢false (sym among ∙ none_among keys least (parent_of k)))
  least_more line true (Some n) is parent among least =
      ((least.0.0, kept least.0.0 least.0.1, least.0.2, least.0.3), each (After n) (λ alone. absurd (true≢false (sym parent ∙ alone))) least.1)
  least_more line false None is parent among least =
      ((k, added, parent, is), each (After line) (λ _. omega (arith, is)) (λ q there. absurd (true≢false (sym there ∙ least q))))
  least_more line false (Some n) is parent among least = by (nat_lt line n) refl
    where
      by : (b : Bool) → nat_lt line n ≡ b → IsLeast m keys' (cond b (Some line) (Some n))
      by true t =
          let less : line ≤ n = grind (arith, nat_tests) in
          ((k, added, parent, is), each (After line) (λ _. omega (arith, is)) (λ q there alone. let rest = least.1 q there alone in omega (arith, less, rest)))
      by false t =
          let low : n ≤ line = grind (arith, nat_tests) in
          ((least.0.0, kept least.0.0 least.0.1, least.0.2, least.0.3), each (After n) (λ _. omega (arith, is, low)) least.1)

pub split_orphan : (m : LoadedCopy) (keys keys' : BTreeSet DnKeys) (first first' : Option ℕ) (standing : Dir) (k : DnKeys) (w : Waiting) (es : List (DnKeys × Waiting))
    → IsStrictlySortedBy dn_key_cmp (keys_of ((k, w) ∷ es)) → has_parent standing k ≡ false
    → ((q : DnKeys) → contains dn_key_cmp keys' q ≡ cond (is_at (dn_key_cmp k) q) true (contains dn_key_cmp keys q))
    → first' ≡ cond (is_among keys (parent_of k)) first (earlier_line w.line first)
    → IsSplit m (waits ((k, w) ∷ es)) keys first standing → IsSplit m (waits es) keys' first' standing
split_orphan m keys keys' first first' standing k w es ordered alone updates is was = record {
  suffix = was.suffix;
  closed = was.closed;
  others = λ q o. by q (eq_by_cmp dn_key_cmp q k) refl (sym (updated m keys keys' k updates q) ∙ o);
  orphans = each m keys keys' k updates (λ q. is_some (entry_at m.entries q) ≡ true) here was.orphans;
  wait = λ q x there. was.wait q x (waits_later k q w es (others_later k q es x gone there) ∙ there);
  apart = λ q x there.
      let other = others_later k q es x gone there in
      updated m keys keys' k updates q ∙ (λ i. cond (other i) true (contains dn_key_cmp keys q)) ∙ was.apart q x (waits_later k q w es other ∙ there);
  least = subst (IsLeast m keys') (sym is)
      (least_more m keys keys' k updates w.line (is_among keys (parent_of k)) first line (parent_among m keys first standing k w es ordered alone was) refl was.least);
}
  where
    gone : waits es k ≡ None
    gone = absent_later k w es ordered

    line : line_at m k ≡ w.line
    line = ap line_or_zero (was.wait k w (waits_first k w es)).1

    here : is_some (entry_at m.entries k) ≡ true
    here = ap is_some (was.others k (was.apart k w (waits_first k w es)) ∙ ap (λ o. waiting_or o (entry_at standing k)) (waits_first k w es))

    by : (q : DnKeys) (b : Bool) → eq_by_cmp dn_key_cmp q k ≡ b → cond b true (contains dn_key_cmp keys q) ≡ false → entry_at m.entries q ≡ waiting_or (waits es q) (entry_at standing q)
    by q true t h = absurd (true≢false h)
    by q false t h = was.others q h ∙ ap (λ o. waiting_or o (entry_at standing q)) (waits_later k q w es t)

-- the place of the first of them is free
pub place_free : (m : LoadedCopy) (keys : BTreeSet DnKeys) (first : Option ℕ) (standing : Dir) (k : DnKeys) (w : Waiting) (es : List (DnKeys × Waiting))
    → IsSplit m (waits ((k, w) ∷ es)) keys first standing → entry_at standing k ≡ None
place_free m keys first standing k w es was = (was.wait k w (waits_first k w es)).0

-- ---- at the end

same_dir : (d e : Dir) → d.suffix ≡ e.suffix → ((q : DnKeys) → entry_at d q ≡ entry_at e q) → d ≡ e
same_dir d e suffix entries = let same = same_map dn_key_cmp_total dn_key_cmp_exact d.entries e.entries entries in (λ i. record { suffix = suffix i; entries = same i })

-- a copy whose entries are all in a closed directory is whole
made_whole : (m : LoadedCopy) (d : Dir) → m.entries ≡ d → IsClosed d → whole_directory m ≡ Ok d
made_whole m d same closed =
    ap (λ e. unless_orphan e (first_line (map (λ p. line_or_zero (fin.get m.lines p.0)) (filter (λ p. not (has_parent e p.0)) (fin.entries e.entries))))) same
    ∙ ap (λ ps. unless_orphan d (first_line (map (λ p. line_or_zero (fin.get m.lines p.0)) ps)))
    (all_filtered (λ p. not (has_parent d p.0)) (λ p. entry_at d p.0 ≡ Some p.1) (λ p there. ap not (closed p.0 (ap is_some there))) (fin.entries d.entries) (entries_stand d))

pub split_whole : (m : LoadedCopy) (keys : BTreeSet DnKeys) (d : Dir) → IsSplit m (waits []) keys None d → (whole_directory m ≡ Ok d) × (m.entries ≡ d) × IsClosed d
split_whole m keys d was =
    let same : m.entries ≡ d = same_dir m.entries d was.suffix (λ q. was.others q (was.least q)) in
    (made_whole m d same was.closed, same, was.closed)

module _ (m : LoadedCopy) (n : ℕ) where
  -- the lines of those without a parent
  abbrev lines_in : List (DnKeys × Content) → List ℕ
  lines_in es = map (λ p. line_at m p.0) (filter (λ p. not (has_parent m.entries p.0)) es)

  abbrev IsLow : DnKeys × Content → Type 0
  IsLow p = has_parent m.entries p.0 ≡ false → n ≤ line_at m p.0

  earlier_low : (line : ℕ) (o : Option ℕ) → n ≤ line → IfSome o (λ f. n ≤ f) → IfSome (earlier_line line o) (λ f. n ≤ f)
  earlier_low line None l h = l
  earlier_low line (Some f) l h = elim (nat_lt line f) as (λ b. IfSome (cond b (Some line) (Some f)) (λ x. n ≤ x)) [ true ↦ l | false ↦ h ]

  none_lower : (es : List (DnKeys × Content)) → Each IsLow es → IfSome (first_line (lines_in es)) (λ f. n ≤ f)
  none_lower [] low = tt
  none_lower (p ∷ es) low = by (has_parent m.entries p.0) refl (none_lower es low.1)
    where
      by : (b : Bool) → has_parent m.entries p.0 ≡ b → IfSome (first_line (lines_in es)) (λ f. n ≤ f)
          → IfSome (first_line (map (λ p. line_at m p.0) (cond (not b) (p ∷ filter (λ p. not (has_parent m.entries p.0)) es) (filter (λ p. not (has_parent m.entries p.0)) es)))) (λ f. n ≤ f)
      by true t rest = rest
      by false t rest = earlier_low (line_at m p.0) (first_line (lines_in es)) (low.0 t) rest

  earlier_is : (line : ℕ) (o : Option ℕ) → line ≡ n → IfSome o (λ f. n ≤ f) → earlier_line line o ≡ Some n
  earlier_is line None is h = ap Some is
  earlier_is line (Some f) is h = by (nat_lt line f) refl
    where
      by : (b : Bool) → nat_lt line f ≡ b → cond b (Some line) (Some f) ≡ Some n
      by true t = ap Some is
      by false t = let same : f ≡ n = grind (arith, nat_tests) in ap Some same

  stays_first : (line : ℕ) → n ≤ line → earlier_line line (Some n) ≡ Some n
  stays_first line l = by (nat_lt line n) refl
    where
      by : (b : Bool) → nat_lt line n ≡ b → cond b (Some line) (Some n) ≡ Some n
      by true t = let same : line ≡ n = grind (arith, nat_tests) in ap Some same
      by false t = refl

  first_found : (k : DnKeys) → has_parent m.entries k ≡ false → line_at m k ≡ n → (es : List (DnKeys × Content)) → Each IsLow es → is_some (find dn_key_cmp k es) ≡ true → first_line (lines_in es) ≡ Some n
  first_found k alone is [] low there = absurd (true≢false (sym there))
  first_found k alone is (p ∷ es) low there = by (eq_by_cmp dn_key_cmp k p.0) refl there (first_found k alone is es low.1)
    where
      later : (b : Bool) → has_parent m.entries p.0 ≡ b → first_line (lines_in es) ≡ Some n
          → first_line (map (λ p. line_at m p.0) (cond (not b) (p ∷ filter (λ p. not (has_parent m.entries p.0)) es) (filter (λ p. not (has_parent m.entries p.0)) es))) ≡ Some n
      later true t rest = rest
      later false t rest = ap (earlier_line (line_at m p.0)) rest ∙ stays_first (line_at m p.0) (low.0 t)

      by : (b : Bool) → eq_by_cmp dn_key_cmp k p.0 ≡ b → is_some (cond b (Some p.1) (find dn_key_cmp k es)) ≡ true → (is_some (find dn_key_cmp k es) ≡ true → first_line (lines_in es) ≡ Some n) → first_line (lines_in (p ∷ es)) ≡ Some n
      by false t h rest = later (has_parent m.entries p.0) refl (rest h)
      by true t h rest =
          let same : p.0 ≡ k = sym (same_key k p.0 t) in
          let here : has_parent m.entries p.0 ≡ false = ap (has_parent m.entries) same ∙ alone in
          ap (λ b. first_line (map (λ p. line_at m p.0) (cond (not b) (p ∷ filter (λ p. not (has_parent m.entries p.0)) es) (filter (λ p. not (has_parent m.entries p.0)) es)))) here
          ∙ earlier_is (line_at m p.0) (first_line (lines_in es)) (ap (line_at m) same ∙ is) (none_lower es low.1)

each_so : {A : Type 0} (P Q : A → Type 0) → ((x : A) → P x → Q x) → (xs : List A) → Each P xs → Each Q xs
each_so P Q f [] ps = tt
each_so P Q f (x ∷ xs) ps = (f x ps.0, each_so P Q f xs ps.1)

or_more : (a b c : Bool) → (b ≡ true → c ≡ true) → (a || b) ≡ true → (a || c) ≡ true
or_more true b c f h = refl
or_more false b c f h = f h

-- the copy's first orphan is the fault
pub split_broken : (m : LoadedCopy) (keys : BTreeSet DnKeys) (n : ℕ) (d : Dir) → IsSplit m (waits []) keys (Some n) d → whole_directory m ≡ Err (n, cause.Code NoSuchObject)
split_broken m keys n d was =
    let first = was.least.0 in
    ap (unless_orphan m.entries)
    (first_found m n first.0 first.2 first.3 (fin.entries m.entries.entries) (each_so (λ p. entry_at m.entries p.0 ≡ Some p.1) (IsLow m n) low (fin.entries m.entries.entries) (entries_stand m.entries))
    (sym (ap is_some (get-entries m.entries.entries first.0)) ∙ was.orphans first.0 first.1))
  where
    there_too : (o : Option DnKeys) → is_there d o ≡ true → is_there m.entries o ≡ true
    there_too None h = h
    there_too (Some p) h = by (contains dn_key_cmp keys p) refl
      where
        by : (b : Bool) → contains dn_key_cmp keys p ≡ b → is_some (entry_at m.entries p) ≡ true
        by true t = was.orphans p t
        by false t = ap is_some (was.others p t) ∙ h

    parent_too : (k : DnKeys) → has_parent d k ≡ true → has_parent m.entries k ≡ true
    parent_too k h = ap (λ s. dn_key_eq k s || is_there m.entries (parent_of k)) was.suffix ∙ or_more (dn_key_eq k d.suffix) (is_there d (parent_of k)) _ (there_too (parent_of k)) h

    low : (p : DnKeys × Content) → entry_at m.entries p.0 ≡ Some p.1 → IsLow m n p
    low p there alone = by (contains dn_key_cmp keys p.0) refl
      where
        by : (b : Bool) → contains dn_key_cmp keys p.0 ≡ b → n ≤ line_at m p.0
        by true t = was.least.1 p.0 t alone
        by false t = absurd (true≢false (sym (parent_too p.0 (was.closed p.0 (sym (ap is_some (was.others p.0 t)) ∙ ap is_some there))) ∙ alone))
