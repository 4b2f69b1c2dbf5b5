-- The entries of a copy as far as it was read.
use Rattle.std.proofs.Common.{◌≡◌, ℕ, ◌⊎◌, inl, inr, Bool, true, false, cond, not, List, [], ◌∷◌, ◌++◌, append-nil, Option, None, Some, is_some, Result, Ok, Err, IfErr, IfOk, IfSome, Bor, refl, sym, ap, subst, ◌∙◌}
use Rattle.std.specs.Option.{option_copied, option_map}
use Rattle.std.specs.Ordering.{eq_by_cmp}
use Rattle.std.specs.Cmp.{eq_by_cmp_equiv}
use Rattle.std.specs.BTreeMap.{get, is_at}
use Rattle.std.specs.FinMap as fin
use Rattle.std.specs.FinMap.{get-empty, get-insert}
use Rattle.dir_names.specs.declared.schema.TypeRow.{TypeRow}
use Rattle.dir_names.specs.Described.{Described}
use Rattle.dir_names.specs.Keys.{DnKeys}
use Rattle.dir_names.specs.Names.{SpelledName}
use Rattle.dir_names.specs.Outcome.{ok_or_bad_dn}
use Rattle.dir_names.specs.Orders.{dn_key_cmp, dn_key_cmp_total}
use Rattle.dir_ldif.specs.Records.{Answer, Found, all_found, records_of}
use Rattle.dir_tree.specs.Content.{Content}
use Rattle.dir_tree.specs.Dir.{Dir, IsClosed, entry_at, has_parent, put_entry}
use Rattle.dir_tree.specs.NewEntry.{new_entry}
use Rattle.dir_tree.proofs.DirLemmas.{closed_empty, closed_put, get_put, same_key}
use Rattle.dir_change.specs.declared.result_code.ResultCode.TheVariants.{NoSuchObject, EntryAlreadyExists}
use Rattle.dir_tools.specs.declared.copy.loading.Loading.{Loading}
use Rattle.dir_tools.specs.declared.copy.loading.Waiting.{Waiting}
use Rattle.dir_tools.specs.CopyOf.{LoadedCopy, copy_of, empty_copy, refused_if, whole_directory, with_content, with_entry, with_records}
use Rattle.dir_names.specs.Results.{and_then}
use Rattle.dir_names.specs.Below.{is_at_or_below}
use Rattle.dir_tree.specs.WellFormed.{IsWellFormed, IsWithinLimits}
use Rattle.dir_tree.specs.SpelledNames.{own_rdns}
use Rattle.dir_tools.proofs.CopySound.{order_taken, order_whole}
use Rattle.dir_tools.specs.Inside.Loading.{AllWait, AreSoundInPlace, IsLoaded, IsMadeOf, IsPut, KeepsSound, LoadsOver, LoadsTo, TakesRecord, waiting_or}
use Rattle.dir_tools.specs.CopyFaults.{HasNoEntries, HasRdn}
use Rattle.dir_tools.proofs.Orphans.{waits}
use Rattle.dir_tools.proofs.Small.{known}
use Rattle.dir_tools.specs.CompleteRecords.{CompleteRecordsLoad}
use Rattle.dir_tools.specs.Inside.Taking.{EndsIn, TakesAll, TakesComplete}
use Rattle.dir_ldif.specs.declared.reader.RecordReader.{RecordReader}
use Rattle.dir_ldif.specs.Reader.{answers_to_come}
use Rattle.dir_tools.specs.declared.taking.End.{End}
use Rattle.dir_tools.specs.declared.taking.End.TheVariants as end

-- ---- an entry more

pub made_standing : (d standing next : Dir) (waiting : DnKeys → Option Waiting) (k : DnKeys) (e : Content) → waiting k ≡ None → has_parent standing k ≡ true → next ≡ put_entry standing k e
    → IsMadeOf d waiting standing → IsMadeOf (put_entry d k e) waiting next
made_standing d standing next waiting k e free parent is was =
    subst (IsMadeOf (put_entry d k e) waiting) (sym is)
    (was.0, closed_put standing k e was.1 parent, λ q. get_put d k e q ∙ by q (eq_by_cmp dn_key_cmp q k) refl ∙ ap (waiting_or (waiting q)) (sym (get_put standing k e q)))
  where
    by : (q : DnKeys) (b : Bool) → eq_by_cmp dn_key_cmp q k ≡ b → cond b (Some e) (entry_at d q) ≡ waiting_or (waiting q) (cond b (Some e) (entry_at standing q))
    by q true t = ap (λ o. waiting_or o (Some e)) (sym (ap waiting (same_key q k t) ∙ free))
    by q false t = was.2 q

pub made_waiting : (d standing : Dir) (waiting waiting' : DnKeys → Option Waiting) (k : DnKeys) (w : Waiting) → ((q : DnKeys) → waiting' q ≡ cond (is_at (dn_key_cmp k) q) (Some w) (waiting q))
    → IsMadeOf d waiting standing → IsMadeOf (put_entry d k w.entry) waiting' standing
made_waiting d standing waiting waiting' k w updates was = (
  was.0,
  was.1,
  λ q. get_put d k w.entry q ∙ by q (eq_by_cmp dn_key_cmp q k)
      ∙ ap (λ b. waiting_or (cond b (Some w) (waiting q)) (entry_at standing q)) ((eq_by_cmp_equiv dn_key_cmp_total).symm q k)
      ∙ ap (λ o. waiting_or o (entry_at standing q)) (sym (updates q)),
)
  where
    by : (q : DnKeys) (b : Bool) → cond b (Some w.entry) (entry_at d q) ≡ waiting_or (cond b (Some w) (waiting q)) (entry_at standing q)
    by q true = refl
    by q false = was.2 q

-- what waited before goes on waiting
pub all_standing : (m : LoadedCopy) (standing next : Dir) (waiting : DnKeys → Option Waiting) (k : DnKeys) (e : Content) (line : ℕ) → waiting k ≡ None → next ≡ put_entry standing k e
    → AllWait m waiting standing → AllWait (record { entries = put_entry m.entries k e; lines = fin.insert m.lines k line }) waiting next
all_standing m standing next waiting k e line free is was q w there = by (eq_by_cmp dn_key_cmp q k) refl
  where
    none_some : {A : Type 0} (x : A) → None ≡ Some x → ⊥
    none_some x h = cc

    by : (b : Bool) → eq_by_cmp dn_key_cmp q k ≡ b → (entry_at next q ≡ None) × (fin.get (fin.insert m.lines k line) q ≡ Some w.line)
    by true t = absurd (none_some w (sym free ∙ sym (ap waiting (same_key q k t)) ∙ there))
    by false t = (
      ap (λ d. entry_at d q) is ∙ get_put standing k e q ∙ (λ i. cond (t i) (Some e) (entry_at standing q)) ∙ (was q w there).0,
      get-insert dn_key_cmp_total m.lines k line q ∙ (λ i. cond (t i) (Some line) (fin.get m.lines q)) ∙ (was q w there).1,
    )

pub all_waiting : (m : LoadedCopy) (standing : Dir) (waiting waiting' : DnKeys → Option Waiting) (k : DnKeys) (w : Waiting) → ((q : DnKeys) → waiting' q ≡ cond (is_at (dn_key_cmp k) q) (Some w) (waiting q))
    → entry_at standing k ≡ None → AllWait m waiting standing → AllWait (record { entries = put_entry m.entries k w.entry; lines = fin.insert m.lines k w.line }) waiting' standing
all_waiting m standing waiting waiting' k w updates free was q x there = by (eq_by_cmp dn_key_cmp q k) refl (sym (updates q ∙ ap (λ b. cond b (Some w) (waiting q)) ((eq_by_cmp_equiv dn_key_cmp_total).symm k q)) ∙ there)
  where
    by : (b : Bool) → eq_by_cmp dn_key_cmp q k ≡ b → cond b (Some w) (waiting q) ≡ Some x → (entry_at standing q ≡ None) × (fin.get (fin.insert m.lines k w.line) q ≡ Some x.line)
    by true t h =
        let same : w ≡ x = cc in (
          ap (entry_at standing) (same_key q k t) ∙ free,
          get-insert dn_key_cmp_total m.lines k w.line q ∙ (λ i. cond (t i) (Some w.line) (fin.get m.lines q)) ∙ ap (λ (z : Waiting). Some z.line) same,
        )
    by false t h = ((was q x h).0, get-insert dn_key_cmp_total m.lines k w.line q ∙ (λ i. cond (t i) (Some w.line) (fin.get m.lines q)) ∙ (was q x h).1)

-- ---- a record

pub placed_ok : (rows : List TypeRow) (m : LoadedCopy) (line : ℕ) (name : SpelledName) (lines : List (Described × List ℕ)) (key : Option DnKeys) (k : DnKeys) (e : Content)
    → key ≡ Some k → is_at_or_below k m.entries.suffix ≡ true → entry_at m.entries k ≡ None → new_entry rows (own_rdns m.entries.suffix k name) lines ≡ Ok e
    → with_content rows m line name lines key ≡ Ok (record { entries = put_entry m.entries k e; lines = fin.insert m.lines k line })
placed_ok rows m line name lines key k e named below free makes =
    ap (with_content rows m line name lines) named
    ∙ (λ i. refused_if (not (below i)) line NoSuchObject (refused_if (is_some (free i)) line EntryAlreadyExists (with_entry m line k (makes i))))

-- ---- over the records that are taken

module _ {D : Type 0} (state : D → Dir) (rows : List TypeRow) where
  -- they lead from one copy to another
  pub loads_all : (founds : List Found) (begun loading : Loading D) → TakesAll rows (TakesRecord state rows) founds begun loading → (start : LoadedCopy) → IsLoaded state start begun
      → (m : LoadedCopy) × IsLoaded state m loading × (AreSoundInPlace rows start.entries → AreSoundInPlace rows m.entries)
      × ((rest : List Answer) → with_records rows start (all_found founds ++ rest) ≡ with_records rows m rest)
  loads_all [] begun loading takes start holds = (start, subst (IsLoaded state start) takes holds, (λ order. order), λ rest. refl)
  loads_all (found ∷ founds) begun loading takes start holds =
      let one = takes.2.1 start holds in
      let all = loads_all founds takes.0 loading takes.3 one.0 one.2 in (
        all.0,
        all.1,
        (λ order. all.2 (order_taken rows start one.0 found.0 found.1 takes.1 one.1 order)),
        λ rest. ap (λ r. and_then r (λ n. with_records rows n (all_found founds ++ rest))) one.1 ∙ all.3 rest,
      )

  loads_these : (founds : List Found) (begun loading : Loading D) → TakesAll rows (TakesRecord state rows) founds begun loading → (start : LoadedCopy) → IsLoaded state start begun
      → LoadsTo state (with_records rows start (all_found founds)) loading
  loads_these founds begun loading takes start holds =
      let all = loads_all founds begun loading takes start holds in
      (all.0, ap (with_records rows start) (sym (append-nil (all_found founds))) ∙ all.3 [], all.1)

  pub loads_out : (founds : List Found) (first : Option (List Answer)) (begun loading : Loading D) → TakesAll rows (TakesRecord state rows) founds begun loading
      → IfSome first (λ known. known ≡ all_found founds) → LoadsOver state rows first begun loading
  loads_out founds first begun loading takes given start holds =
      known first (λ answers is. subst (λ t. LoadsTo state (with_records rows start t) loading) (sym is) (loads_these founds begun loading takes start holds)) given

  pub order_out : (founds : List Found) (begun loading : Loading D) → TakesAll rows (TakesRecord state rows) founds begun loading → KeepsSound state rows begun loading
  order_out founds begun loading takes start holds = let all = loads_all founds begun loading takes start holds in (all.0, all.1, all.2)

  pub suffix_out : (founds : List Found) (begun loading : Loading D) → TakesAll rows (TakesRecord state rows) founds begun loading → (state loading.directory).suffix ≡ (state begun.directory).suffix
  suffix_out [] begun loading takes = ap (λ (l : Loading D). (state l.directory).suffix) (sym takes)
  suffix_out (found ∷ founds) begun loading takes = suffix_out founds takes.0 loading takes.3 ∙ takes.2.0

  -- so do the complete records of a text
  pub complete_load : (begun : Loading D) (answers : List ℕ → List Answer) → TakesComplete rows (TakesRecord state rows) begun answers → (start : LoadedCopy) → IsLoaded state start begun → CompleteRecordsLoad rows start answers
  complete_load begun answers takes start holds = λ founds settles.
      let taken = takes founds settles in
      let all = loads_these founds begun taken.0 taken.1 start holds in (all.0, all.1)

-- each record of a copy is wanted, so it is read to its end
pub all_loaded : {D : Type 0} {S : Type 0} (state : D → Dir) (rows : List TypeRow) (left : S → Option (List ℕ)) (failures : S → ℕ) (ended : End) (begun loading : Loading D) (first last : RecordReader S)
    → (ended ≡ end.AtEnd) ⊎ (ended ≡ end.Enough) → EndsIn rows (TakesRecord state rows) left failures ended begun loading first last
    → (founds : List Found) × TakesAll rows (TakesRecord state rows) founds begun loading × IfSome (answers_to_come left first) (λ known. known ≡ all_found founds)
all_loaded state rows left failures end.AtEnd begun loading first last is ends = ends.1
all_loaded state rows left failures end.Enough begun loading first last is ends = absurd (ends.1.4)
all_loaded state rows left failures (end.TextFault fault) begun loading first last (inl is) ends = absurd (cc)
all_loaded state rows left failures (end.TextFault fault) begun loading first last (inr is) ends = absurd (cc)
all_loaded state rows left failures (end.TakeFault fault) begun loading first last (inl is) ends = absurd (cc)
all_loaded state rows left failures (end.TakeFault fault) begun loading first last (inr is) ends = absurd (cc)

-- ---- the whole copy

pub holds_nothing : {D : Type 0} (state : D → Dir) (empty : D) (loading : Loading D) → loading.directory ≡ empty → loading.waiting.entries ≡ [] → HasNoEntries (state empty)
    → IsLoaded state (empty_copy (state empty).suffix) loading
holds_nothing state empty loading same none bare =
    let d = state empty in
    let is : d ≡ record { suffix = d.suffix; entries = fin.empty } = (λ i. record { suffix = d.suffix; entries = bare i }) in (
      subst (λ x. IsMadeOf (empty_copy d.suffix).entries (get dn_key_cmp loading.waiting) (state x)) (sym same)
          (refl, subst IsClosed (sym is) (closed_empty d.suffix), λ q. (λ i. entry_at (sym is i) q) ∙ (λ i. waiting_or (waits (sym none i) q) (entry_at d q))),
      λ q w there. absurd (none_some w (sym (λ i. waits (none i) q) ∙ there)),
    )
  where
    none_some : (w : Waiting) → None ≡ Some w → ⊥
    none_some w h = cc

-- ---- what a call answered

pub not_none : {A : Type 0} (o : Option A) → is_some o ≡ true → o ≡ None → ⊥
not_none None there none = absurd (cc)
not_none (Some x) there none = absurd (cc)

pub put_there : (k : DnKeys) (e : Content) (old new : Dir) (back : Option Content) → IsPut k e old new back → is_some back ≡ false → (has_parent old k ≡ true) × (new ≡ put_entry old k e)
put_there k e old new None put none = put
put_there k e old new (Some back) put none = absurd (cc)

pub put_alone : (k : DnKeys) (e : Content) (old new : Dir) (back : Option Content) → IsPut k e old new back → is_some back ≡ true → (has_parent old k ≡ false) × (new ≡ old)
put_alone k e old new None put some = absurd (cc)
put_alone k e old new (Some back) put some = (put.1, put.2)

pub put_back : (k : DnKeys) (e : Content) (old new : Dir) (back : Option Content) (b : Content) → IsPut k e old new back → back ≡ Some b → (b ≡ e) × (new ≡ old)
put_back k e old new None b put is = absurd (cc)
put_back k e old new (Some x) b put is = let same : x ≡ b = cc in (sym same ∙ put.0, put.2)

pub nothing : {A : Type 0} (o : Option A) → is_some o ≡ false → o ≡ None
nothing None none = refl
nothing (Some x) none = absurd (cc)

pub none_so : {A : Type 0} (o : Option (Bor A)) → option_copied o ≡ None → o ≡ None
none_so None e = refl
none_so (Some x) e = absurd (cc)

pub none_copied : {A : Type 0} (o : Option (Bor A)) → is_some o ≡ false → option_copied o ≡ None
none_copied None e = refl
none_copied (Some x) e = absurd (cc)

pub key_named : (key : Option DnKeys) (k : DnKeys) → ok_or_bad_dn key ≡ Ok k → key ≡ Some k
key_named None k e = absurd (cc)
key_named (Some q) k e = let same : q ≡ k = cc in ap Some same

-- ---- what was read is the copy's directory

pub if_err : {A E : Type 0} {P Q : E → Type 0} (r : Result A E) → ((e : E) → P e → Q e) → IfErr r P → IfErr r Q
if_err (Ok x) f h = tt
if_err (Err e) f h = f e h

pub if_ok : {A E : Type 0} {P Q : A → Type 0} (r : Result A E) → ((x : A) → P x → Q x) → IfOk r P → IfOk r Q
if_ok (Ok x) h p = h x p
if_ok (Err e) h p = p

pub if_both : {A E : Type 0} (P Q : A → Type 0) (r : Result A E) → IfOk r P → IfOk r Q → IfOk r (λ x. P x × Q x)
if_both P Q (Ok x) p q = (p, q)
if_both P Q (Err e) p q = tt

read_text : {D : Type 0} (state : D → Dir) (rows : List TypeRow) (suffix : DnKeys) (text : List ℕ) (loading : Loading D) (d : Dir)
    → LoadsTo state (with_records rows (empty_copy suffix) (records_of rows text)) loading → ((m : LoadedCopy) → IsLoaded state m loading → whole_directory m ≡ Ok d) → copy_of rows suffix text ≡ Ok d
read_text state rows suffix text loading d leads is = ap (λ r. and_then r whole_directory) leads.1 ∙ is leads.0 leads.2

pub read_whole : {D : Type 0} (state : D → Dir) (rows : List TypeRow) (suffix : DnKeys) (text : Option (List ℕ)) (given : Option (List Answer)) (old new : Loading D) (d : Dir)
    → given ≡ option_map (records_of rows) text → LoadsOver state rows given old new → IsLoaded state (empty_copy suffix) old → ((m : LoadedCopy) → IsLoaded state m new → whole_directory m ≡ Ok d)
    → IfSome text (λ t. copy_of rows suffix t ≡ Ok d)
read_whole state rows suffix None given old new d known leads start is = tt
read_whole state rows suffix (Some t) given old new d known leads start is =
    read_text state rows suffix t new d (subst (λ o. IfSome o (λ answers. LoadsTo state (with_records rows (empty_copy suffix) answers) new)) known (leads (empty_copy suffix) start)) is

pub bare_order : (rows : List TypeRow) (suffix : DnKeys) → AreSoundInPlace rows (empty_copy suffix).entries
bare_order rows suffix k e there = let none : None ≡ Some e = sym (get-empty dn_key_cmp k) ∙ there in absurd (cc)

pub read_order : {D : Type 0} (state : D → Dir) (rows : List TypeRow) (suffix : DnKeys) (old new : Loading D) (d : Dir)
    → KeepsSound state rows old new → IsLoaded state (empty_copy suffix) old → d.suffix ≡ suffix → HasRdn suffix
    → ((m : LoadedCopy) → IsLoaded state m new → (whole_directory m ≡ Ok d) × (m.entries ≡ d) × IsClosed d) → IsWellFormed rows d × IsWithinLimits d
read_order state rows suffix old new d keeps start same named is =
    let on = keeps (empty_copy suffix) start in
    let ends_in = is on.0 on.1 in
    order_whole rows on.0.entries d ends_in.1 ends_in.2 (λ none. named (sym same ∙ none)) (on.2 (bare_order rows suffix))
