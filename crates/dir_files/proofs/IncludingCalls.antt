-- Files that are read, one after the other.
use Rattle.std.proofs.Common.{◌≡◌, ◌≢◌, ◌⊎◌, ℕ, zero, suc, ◌+◌, ◌-◌, ◌<◌, ◌≤◌, Bool, true, false, cond, List, [], ◌∷◌, ◌++◌, length, map, Option, None, Some, option_map, IfSome, Ok, Err, inl, inr, refl, sym, ap, subst, ◌∙◌, append-nil, append_assoc, arith, Vec, Global}
use Rattle.std.specs.List.{flat_map}
use Rattle.std.specs.Str.{is_utf8}
use Rattle.dir_conf.specs.declared.slapd_conf.files.ConfFile.{ConfFile}
use Rattle.dir_conf.specs.SlapdConf.Files.{File, file_of, includes_in}
use Rattle.dir_files.specs.declared.fault.Fault.{Fault}
use Rattle.dir_files.specs.declared.including.ReadFiles.{ReadFiles}
use Rattle.dir_files.specs.declared.including.Unread.{Unread}
use Rattle.dir_files.specs.declared.including.Unread.TheVariants as unread
use Rattle.dir_files.specs.declared.files.Refusal.{Refusal}
use Rattle.dir_files.specs.declared.files.Refusal.TheVariants as refusal
use Rattle.dir_files.specs.Faults.{IsCannotOpen, IsNotOpened}
use Rattle.dir_files.specs.Files.{Call, Disk, Told, creates, discards, opens, publishes, reports, standard_input, syncs, with_call, withdraws}
use Rattle.dir_files.specs.Including.{AreOpens, AreReadBy, Does, IncludedBelow, IsNotRead, IsReadBy, ReadsFiles, StopsBy, included_by, is_passed_over, new_paths, opened_size, path_of, size_of, text_size, with_calls, with_text}

-- ---- calls

abbrev pub with_texts : Disk → List Call → Disk
with_texts d calls = record { calls = calls; text_at = d.text_at; mode_at = d.mode_at; typed = d.typed }

-- no call
pub does_none : (a : Option Disk) (P : Disk → List Call → Type 0) → ((d : Disk) → a ≡ Some d → P d []) → Does a a P
does_none None P h = tt
does_none (Some d) P h = ([], ap (λ (calls : List Call). with_texts d calls) (sym (append-nil d.calls)), h d refl)

-- one call
pub does_one : (a b : Option Disk) (call : Call) (P : Disk → List Call → Type 0) → Told a b call → ((d : Disk) → a ≡ Some d → b ≡ Some (with_call d call) → P d (call ∷ [])) → Does a b P
does_one a None call P told h = tt
does_one None (Some after) call P told h = absurd (told)
does_one (Some d) (Some after) call P told h = (call ∷ [], told, h d refl (ap Some told))

-- some calls, and then others
pub does_both : (a b c : Option Disk) (P Q R : Disk → List Call → Type 0) → Does a b P → Does b c Q
    → ((d : Disk) (first : List Call) (rest : List Call) → P d first → Q (with_calls d first) rest → R d (first ++ rest)) → Does a c R
does_both a b None P Q R first second h = tt
does_both a None (Some last) P Q R first second h = absurd (second)
does_both None (Some next) (Some last) P Q R first second h = absurd (first)
does_both (Some d) (Some next) (Some last) P Q R first second h =
    let moved : Q (with_calls d first.0) second.0 = subst (λ (x : Disk). Q x second.0) first.1 second.2 in (
      first.0 ++ second.0,
      second.1 ∙ ap (λ (x : Disk). with_calls x second.0) first.1 ∙ ap (λ (calls : List Call). with_texts d calls) (append_assoc d.calls first.0 second.0),
      h d first.0 second.0 first.2 moved,
    )

-- the same calls, of which something else is said
pub does_as : (a b : Option Disk) (P Q : Disk → List Call → Type 0) → Does a b P → ((d : Disk) (calls : List Call) → a ≡ Some d → P d calls → Q d calls) → Does a b Q
does_as a None P Q does h = tt
does_as None (Some last) P Q does h = absurd (does)
does_as (Some d) (Some last) P Q does h = (does.0, does.1, h d does.0 refl does.2)

-- a call that leaves what is told of the file system
pub does_before : (a b c : Option Disk) (P : Disk → List Call → Type 0) → b ≡ a → Does b c P → Does a c P
does_before a b c P same does = subst (λ (s : Option Disk). Does s c P) same does

pub does_after : (a b c : Option Disk) (P : Disk → List Call → Type 0) → c ≡ b → Does a b P → Does a c P
does_after a b c P same does = subst (λ (s : Option Disk). Does a s P) (sym same) does

-- ---- numbers

plus_zero : (n : ℕ) → n ≡ 0 + n
plus_zero n = grind arith

zero_after : (n : ℕ) → n + 0 ≡ 0 + n
zero_after n = grind arith

plus_assoc : (a b c : ℕ) → a + (b + c) ≡ (a + b) + c
plus_assoc a b c = grind arith

all_room : (n : ℕ) → n ≤ 16777216 → (16777216 - n) + (n + 0) ≡ 16777216
all_room n h = grind arith

room_back : (room used size n : ℕ) → used ≡ n → used ≤ room → (room - used) + (size + n) ≡ room + size
room_back room used size n e h = grind arith

none_fits : (room : ℕ) → 0 ≤ room
none_fits room = grind arith

-- ---- files that are read

-- the calls so far have left the texts as they are
module _ (d : Disk) where
  pub one_after : (files : List File) (file : File) (calls call : List Call) → AreReadBy d files calls → IsReadBy d file call → AreReadBy d (files ++ file ∷ []) (calls ++ call)
  one_after [] file calls call before one = (call, [], ap (λ (l : List Call). l ++ call) before ∙ sym (append-nil call), one, refl)
  one_after (first ∷ more) file calls call before one =
      (before.0, before.1 ++ call, ap (λ (l : List Call). l ++ call) before.2 ∙ append_assoc before.0 before.1 call, before.3, one_after more file before.1 call before.4 one)

  pub both_read : (files more : List File) (calls rest : List Call) → AreReadBy d files calls → AreReadBy d more rest → AreReadBy d (files ++ more) (calls ++ rest)
  both_read [] more calls rest before after = subst (λ (l : List Call). AreReadBy d more (l ++ rest)) (sym before) after
  both_read (first ∷ files) more calls rest before after =
      (before.0, before.1 ++ rest, ap (λ (l : List Call). l ++ rest) before.2 ∙ append_assoc before.0 before.1 rest, before.3, both_read files more before.1 rest before.4 after)

  one_opens : (file : File) (calls : List Call) → IsReadBy d file calls → AreOpens calls
  one_opens file calls (inl none) = subst AreOpens (sym none.1) tt
  one_opens file calls (inr (inl opened)) = subst AreOpens (sym opened.0) tt
  one_opens file calls (inr (inr refused)) = subst AreOpens (sym refused.1) tt

  pub all_opens : (calls rest : List Call) → AreOpens calls → AreOpens rest → AreOpens (calls ++ rest)
  all_opens [] rest before after = after
  all_opens (opens path why ∷ calls) rest before after = all_opens calls rest before after
  all_opens (standard_input ∷ calls) rest before after = absurd (before)
  all_opens (creates path mode why ∷ calls) rest before after = absurd (before)
  all_opens (syncs path text why ∷ calls) rest before after = absurd (before)
  all_opens (publishes path text why ∷ calls) rest before after = absurd (before)
  all_opens (discards path ∷ calls) rest before after = absurd (before)
  all_opens (withdraws path ∷ calls) rest before after = absurd (before)
  all_opens (reports text why ∷ calls) rest before after = absurd (before)

  pub read_opens : (files : List File) (calls : List Call) → AreReadBy d files calls → AreOpens calls
  read_opens [] calls none = subst AreOpens (sym none) tt
  read_opens (file ∷ more) calls read = subst AreOpens (sym read.2) (all_opens read.0 read.1 (one_opens file read.0 read.3) (read_opens more read.1 read.4))

  sum_with : (n : ℕ) (text : List ℕ) (size : Option ℕ) → with_text (Some text) (option_map (λ s. n + s) size) ≡ option_map (λ s. (length text + n) + s) size
  sum_with n text None = refl
  sum_with n text (Some s) = ap (λ (k : ℕ). Some k) (plus_assoc (length text) n s)

  -- of files that were read and those after them all sizes are known together, or some are not
  abbrev IsSum : ℕ → Option ℕ → Option ℕ → Type 0
  IsSum n rest whole = (whole ≡ None) ⊎ (whole ≡ option_map (λ s. n + s) rest)

  plus_none : (size : Option ℕ) → size ≡ option_map (λ s. 0 + s) size
  plus_none None = refl
  plus_none (Some s) = ap (λ (k : ℕ). Some k) (plus_zero s)

  one_sum : (file : File) (calls rest : List Call) (n : ℕ) (after : Option ℕ) → IsReadBy d file calls → IsSum n after (opened_size d.text_at rest)
      → IsSum (text_size file.text + n) after (opened_size d.text_at (calls ++ rest))
  one_sum file calls rest n after (inl none) sum =
      subst (λ (text : Option (List ℕ)). IsSum (text_size text + n) after (opened_size d.text_at (calls ++ rest))) (sym none.2)
      (subst (λ (l : List Call). IsSum (0 + n) after (opened_size d.text_at (l ++ rest))) (sym none.1) (subst (λ (k : ℕ). IsSum k after (opened_size d.text_at rest)) (plus_zero n) sum))
  one_sum file calls rest n after (inr (inr refused)) sum =
      subst (λ (text : Option (List ℕ)). IsSum (text_size text + n) after (opened_size d.text_at (calls ++ rest))) (sym refused.2)
      (subst (λ (l : List Call). IsSum (0 + n) after (opened_size d.text_at (l ++ rest))) (sym refused.1) (subst (λ (k : ℕ). IsSum k after (opened_size d.text_at rest)) (plus_zero n) sum))
  one_sum file calls rest n after (inr (inl opened)) sum =
      subst (λ (text : Option (List ℕ)). IsSum (text_size text + n) after (opened_size d.text_at (calls ++ rest))) (sym opened.2)
      (subst (λ (l : List Call). IsSum (length opened.1 + n) after (opened_size d.text_at (l ++ rest))) (sym opened.0) (by (d.text_at file.path) opened.3 sum))
    where
      by : (known : Option (List ℕ)) → IfSome known (λ known. opened.1 ≡ known) → IsSum n after (opened_size d.text_at rest) → IsSum (length opened.1 + n) after (with_text known (opened_size d.text_at rest))
      by None same sum = inl refl
      by (Some known) same (inl none) = inl (ap (λ (size : Option ℕ). with_text (Some known) size) none)
      by (Some known) same (inr all) = inr (ap (λ (size : Option ℕ). with_text (Some known) size) all ∙ ap (λ (text : List ℕ). with_text (Some text) (option_map (λ s. n + s) after)) (sym same) ∙ sum_with n opened.1 after)

  sizes_after : (files : List File) (calls rest : List Call) → AreReadBy d files calls → IsSum (size_of files) (opened_size d.text_at rest) (opened_size d.text_at (calls ++ rest))
  sizes_after [] calls rest none = subst (λ (l : List Call). IsSum 0 (opened_size d.text_at rest) (opened_size d.text_at (l ++ rest))) (sym none) (inr (plus_none (opened_size d.text_at rest)))
  sizes_after (file ∷ more) calls rest read =
      subst (λ (l : List Call). IsSum (size_of (file ∷ more)) (opened_size d.text_at rest) (opened_size d.text_at l)) (sym (append_assoc read.0 read.1 rest) ∙ ap (λ (l : List Call). l ++ rest) (sym read.2))
      (one_sum file read.0 (read.1 ++ rest) (size_of more) (opened_size d.text_at rest) read.3 (sizes_after more read.1 rest read.4))

  long_after : (left room : ℕ) (files : List File) (calls rest : List Call) → left + size_of files ≡ room → AreReadBy d files calls
      → IfSome (opened_size d.text_at rest) (λ size. left < size) → IfSome (opened_size d.text_at (calls ++ rest)) (λ size. room < size)
  long_after left room files calls rest e read = by (opened_size d.text_at rest) (opened_size d.text_at (calls ++ rest)) (sizes_after files calls rest read)
    where
      by : (after whole : Option ℕ) → IsSum (size_of files) after whole → IfSome after (λ size. left < size) → IfSome whole (λ size. room < size)
      by after whole (inl none) h = subst (λ (size : Option ℕ). IfSome size (λ size. room < size)) (sym none) tt
      by None whole (inr all) h = subst (λ (size : Option ℕ). IfSome size (λ size. room < size)) (sym all) tt
      by (Some s) whole (inr all) h = subst (λ (size : Option ℕ). IfSome size (λ size. room < size)) (sym all) (grind arith)

  -- a file isn't read after others were
  pub stops_after : (left room : ℕ) (why : Unread) (files : List File) (calls rest : List Call) → left + size_of files ≡ room → AreReadBy d files calls → StopsBy left why d rest → StopsBy room why d (calls ++ rest)
  stops_after left room unread.TooLong files calls rest e read stops = (all_opens calls rest (read_opens files calls read) stops.0, long_after left room files calls rest e read stops.1)
  stops_after left room unread.Failed files calls rest e read stops = all_opens calls rest (read_opens files calls read) stops
  stops_after left room unread.Memory files calls rest e read stops = all_opens calls rest (read_opens files calls read) stops

-- ---- one path

abbrev pub Here : Option Disk → List ℕ → Option (List ℕ) → Type 0
Here b path left = IfSome b (λ d. left ≡ d.text_at path)

known_here : (d : Disk) (call : Call) (path : List ℕ) (left : Option (List ℕ)) (P : List ℕ → Type 0) (b : Option Disk) → b ≡ Some (with_call d call) → Here b path left → IfSome left P → IfSome (d.text_at path) P
known_here d call path left P b is here h = subst (λ (t : Option (List ℕ)). IfSome t P) (subst (λ (x : Option Disk). Here x path left) is here) h

pub not_asked : (a : Option Disk) (path : List ℕ) → is_utf8 path ≡ false → Does a a (λ d. AreReadBy d (record { path = path; text = None } ∷ []))
not_asked a path none = does_none a (λ d. AreReadBy d (record { path = path; text = None } ∷ [])) (λ d is. ([], [], refl, inl (none, refl, refl), refl))

pub refused : (a b : Option Disk) (path : List ℕ) (why : Refusal) → why ≢ refusal.Memory → Told a b (opens path (Some why)) → Does a b (λ d. AreReadBy d (record { path = path; text = None } ∷ []))
refused a b path why other told =
    does_one a b (opens path (Some why)) (λ d. AreReadBy d (record { path = path; text = None } ∷ [])) told (λ d is after. (opens path (Some why) ∷ [], [], refl, inr (inr (why, refl, refl, other)), refl))

pub read : (a b : Option Disk) (path text : List ℕ) (left : Option (List ℕ)) → Told a b (opens path None) → Here b path left → IfSome left (λ known. text ≡ known) → Does a b (λ d. AreReadBy d (record { path = path; text = Some text } ∷ []))
read a b path text left told here same =
    does_one a b (opens path None) (λ d. AreReadBy d (record { path = path; text = Some text } ∷ [])) told
    (λ d is after. (opens path None ∷ [], [], refl, inr (inl (refl, text, refl, known_here d (opens path None) path left (λ known. text ≡ known) b after here same)), refl))

long_alone : (room : ℕ) (text : Option (List ℕ)) → IfSome text (λ known. room < length known) → IfSome (with_text text (Some 0)) (λ size. room < size)
long_alone room None h = tt
long_alone room (Some known) h = grind arith

pub not_read : (a b : Option Disk) (room : ℕ) (path : List ℕ) (left : Option (List ℕ)) (why : Unread) → Told a b (opens path None) → Here b path left → (why ≡ unread.TooLong → IfSome left (λ known. room < length known))
    → Does a b (λ d. StopsBy room why d)
not_read a b room path left unread.TooLong told here long =
    does_one a b (opens path None) (λ d. StopsBy room unread.TooLong d) told
    (λ d is after. (tt, long_alone room (d.text_at path) (known_here d (opens path None) path left (λ known. room < length known) b after here (long refl))))
not_read a b room path left unread.Failed told here long = does_one a b (opens path None) (λ d. StopsBy room unread.Failed d) told (λ d is after. tt)
not_read a b room path left unread.Memory told here long = does_one a b (opens path None) (λ d. StopsBy room unread.Memory d) told (λ d is after. tt)

-- the same, where the path that is asked for is this one
pub refused_at : (a b : Option Disk) (asked path : List ℕ) (why : Refusal) → why ≢ refusal.Memory → asked ≡ path → Told a b (opens asked (Some why)) → Does a b (λ d. AreReadBy d (record { path = path; text = None } ∷ []))
refused_at a b asked path why other e told = refused a b path why other (subst (λ (p : List ℕ). Told a b (opens p (Some why))) e told)

pub read_at : (a b : Option Disk) (asked path text : List ℕ) (left : Option (List ℕ)) → asked ≡ path → Told a b (opens asked None) → Here b asked left → IfSome left (λ known. text ≡ known)
    → Does a b (λ d. AreReadBy d (record { path = path; text = Some text } ∷ []))
read_at a b asked path text left e told here same = read a b path text left (subst (λ (p : List ℕ). Told a b (opens p None)) e told) (subst (λ (p : List ℕ). Here b p left) e here) same

map_one : {A B : Type 0} (f : A → B) (xs : List A) (x : A) → map f (xs ++ x ∷ []) ≡ map f xs ++ f x ∷ []
map_one f [] x = refl
map_one f (y ∷ ys) x = ap (λ l. f y ∷ l) (map_one f ys x)

pub pushed : (items before : List ConfFile) (file : ConfFile) (wanted : File) → items ≡ before ++ file ∷ [] → file_of file ≡ wanted → map file_of items ≡ map file_of before ++ wanted ∷ []
pushed items before file wanted e f = ap (map file_of) e ∙ map_one file_of before file ∙ ap (λ (x : File). map file_of before ++ x ∷ []) f

-- a file more is read
pub one_more : (a b : Option Disk) (before now : List File) (file : File) → now ≡ before ++ file ∷ [] → Does a b (λ d. AreReadBy d (file ∷ []))
    → Does a b (λ d calls. (more : List File) × (now ≡ before ++ more) × AreReadBy d more calls)
one_more a b before now file e does =
    does_as a b (λ d. AreReadBy d (file ∷ [])) (λ d calls. (more : List File) × (now ≡ before ++ more) × AreReadBy d more calls) does (λ d calls is h. (file ∷ [], e, h))

size_one_more : (files : List File) (file : File) → size_of (files ++ file ∷ []) ≡ size_of files + text_size file.text
size_one_more [] file = zero_after (text_size file.text)
size_one_more (first ∷ more) file = ap (λ (n : ℕ). text_size first.text + n) (size_one_more more file) ∙ plus_assoc (text_size first.text) (size_of more) (text_size file.text)

-- what may still be read and what the files have stay together as much
pub room_one_more : (before now : List File) (file : File) (room used : ℕ) → now ≡ before ++ file ∷ [] → used ≡ text_size file.text → text_size file.text ≤ room → (room - used) + size_of now ≡ room + size_of before
room_one_more before now file room used e f short =
    ap (λ (files : List File). (room - used) + size_of files) e
    ∙ ap (λ (n : ℕ). (room - used) + n) (size_one_more before file)
    ∙ room_back room used (size_of before) (text_size file.text) f (subst (λ (n : ℕ). n ≤ room) (sym f) short)

pub short_text : (room : ℕ) (text : Option (Vec ℕ Global)) → IfSome text (λ text. length text.items ≤ room) → text_size (option_map (λ text. text.items) text) ≤ room
short_text room None h = none_fits room
short_text room (Some text) h = h

-- none is
pub none_more : (a : Option Disk) (before : List File) → Does a a (λ d calls. (more : List File) × (before ≡ before ++ more) × AreReadBy d more calls)
none_more a before = does_none a (λ d calls. (more : List File) × (before ≡ before ++ more) × AreReadBy d more calls) (λ d is. ([], sym (append-nil before), refl))

-- ---- paths

pub one_new : (known : List (List ℕ)) (path : List ℕ) (rest : List (List ℕ)) → new_paths known (path ∷ rest) ≡ new_paths known (path ∷ []) ++ new_paths (known ++ new_paths known (path ∷ [])) rest
one_new known path rest = by (is_passed_over known path)
  where
    by : (t : Bool) → cond t (new_paths known rest) (path ∷ new_paths (known ++ path ∷ []) rest)
        ≡ cond t [] (path ∷ []) ++ new_paths (known ++ cond t [] (path ∷ [])) rest
    by true = ap (λ (l : List (List ℕ)). new_paths l rest) (sym (append-nil known))
    by false = refl

-- the paths so far with one more, and those to come
pub step_new : (known before : List (List ℕ)) (path : List ℕ) (rest : List (List ℕ)) → before ++ new_paths (known ++ before) (path ∷ rest)
    ≡ (before ++ new_paths (known ++ before) (path ∷ [])) ++ new_paths (known ++ (before ++ new_paths (known ++ before) (path ∷ []))) rest
step_new known before path rest =
    ap (λ (l : List (List ℕ)). before ++ l) (one_new (known ++ before) path rest)
    ∙ sym (append_assoc before (new_paths (known ++ before) (path ∷ [])) (new_paths ((known ++ before) ++ new_paths (known ++ before) (path ∷ [])) rest))
    ∙ ap (λ (l : List (List ℕ)). (before ++ new_paths (known ++ before) (path ∷ [])) ++ new_paths l rest) (append_assoc known before (new_paths (known ++ before) (path ∷ [])))

-- ---- one level after the other

same_stops : (d : Disk) (calls : List Call) (room : ℕ) (why : Unread) (rest : List Call) → StopsBy room why (with_calls d calls) rest → StopsBy room why d rest
same_stops d calls room unread.TooLong rest h = h
same_stops d calls room unread.Failed rest h = h
same_stops d calls room unread.Memory rest h = h

same_read : (d : Disk) (calls : List Call) (files : List File) (rest : List Call) → AreReadBy (with_calls d calls) files rest → AreReadBy d files rest
same_read d calls [] rest h = h
same_read d calls (file ∷ more) rest h = (h.0, h.1, h.2, h.3, same_read d calls more h.1 h.4)

pub stopped_after : (a b c : Option Disk) (left room : ℕ) (files : List File) (why : Unread) → left + size_of files ≡ room → Does a b (λ d. AreReadBy d files) → Does b c (λ d. StopsBy left why d) → Does a c (λ d. StopsBy room why d)
stopped_after a b c left room files why e first second =
    does_both a b c (λ d. AreReadBy d files) (λ d. StopsBy left why d) (λ d. StopsBy room why d) first second
    (λ d calls rest read stops. stops_after d left room why files calls rest e read (same_stops d calls left why rest stops))

pub memory_after : (a b : Option Disk) (room : ℕ) (files : List File) → Does a b (λ d. AreReadBy d files) → Does a b (λ d. StopsBy room unread.Memory d)
memory_after a b room files read = does_as a b (λ d. AreReadBy d files) (λ d. StopsBy room unread.Memory d) read (λ d calls is h. read_opens d files calls h)

pub all_read : (a b c : Option Disk) (files more : List File) → Does a b (λ d. AreReadBy d files) → Does b c (λ d. AreReadBy d more) → Does a c (λ d. AreReadBy d (files ++ more))
all_read a b c files more first second =
    does_both a b c (λ d. AreReadBy d files) (λ d. AreReadBy d more) (λ d. AreReadBy d (files ++ more)) first second
    (λ d calls rest read then. both_read d files more calls rest read (same_read d calls more rest then))

-- some more of these files are read
pub more_after : (a b c : Option Disk) (files now : List File) → Does a b (λ d. AreReadBy d files) → Does b c (λ d calls. (more : List File) × (now ≡ files ++ more) × AreReadBy d more calls) → Does a c (λ d. AreReadBy d now)
more_after a b c files now first second =
    does_both a b c (λ d. AreReadBy d files) (λ d calls. (more : List File) × (now ≡ files ++ more) × AreReadBy d more calls) (λ d. AreReadBy d now) first second
    (λ d calls rest read then. subst (λ (l : List File). AreReadBy d l (calls ++ rest)) (sym then.1) (both_read d files then.0 calls rest read (same_read d calls then.0 rest then.2)))

-- ---- all levels

pub none_below : (below : ℕ) (known wanted : List (List ℕ)) → below ≡ 0 → IncludedBelow below known wanted []
unfolding IncludedBelow
none_below below known wanted e = subst (λ (n : ℕ). IncludedBelow n known wanted []) (sym e) refl

pub level_below : (below : ℕ) (known wanted : List (List ℕ)) (new rest : List File) → below ≢ 0 → map path_of new ≡ new_paths known wanted
    → IncludedBelow (below - 1) (known ++ map path_of new) (flat_map included_by new) rest → IncludedBelow below known wanted (new ++ rest)
unfolding IncludedBelow
level_below zero known wanted new rest some paths below = absurd (some refl)
level_below (suc n) known wanted new rest some paths below =
    let one : suc n - 1 ≡ n = grind arith in
    (new, rest, refl, paths, subst (λ (m : ℕ). IncludedBelow m (known ++ map path_of new) (flat_map included_by new) rest) one below)

map_both : {A B : Type 0} (f : A → B) (xs ys : List A) → map f (xs ++ ys) ≡ map f xs ++ map f ys
map_both f [] ys = refl
map_both f (x ∷ xs) ys = ap (λ l. f x ∷ l) (map_both f xs ys)

pub appended : (items before more : List ConfFile) → items ≡ before ++ more → map file_of items ≡ map file_of before ++ map file_of more
appended items before more e = ap (map file_of) e ∙ map_both file_of before more

-- ---- the whole

-- a call, and then others
pub one_before : (a b c : Option Disk) (call : Call) (P R : Disk → List Call → Type 0) → Told a b call → Does b c P
    → ((d : Disk) (calls : List Call) → a ≡ Some d → b ≡ Some (with_call d call) → P (with_call d call) calls → R d (call ∷ calls)) → Does a c R
one_before a b None call P R told does h = tt
one_before a None (Some last) call P R told does h = absurd (does)
one_before None (Some next) (Some last) call P R told does h = absurd (told)
one_before (Some d) (Some next) (Some last) call P R told does h =
    let moved : P (with_call d call) does.0 = subst (λ (x : Disk). P x does.0) told does.2 in (
      call ∷ does.0,
      does.1 ∙ ap (λ (x : Disk). with_calls x does.0) told ∙ ap (λ (calls : List Call). with_texts d calls) (append_assoc d.calls (call ∷ []) does.0),
      h d does.0 refl (ap Some told) moved,
    )

pub not_opened : (a b : Option Disk) (path : List ℕ) (why : Refusal) (e : Fault) → Told a b (opens path (Some why)) → IsNotOpened path why e → Does a b (ReadsFiles path (Err e))
not_opened a b path why e told is = does_one a b (opens path (Some why)) (ReadsFiles path (Err e)) told (λ d here after. by d why is)
  where
    by : (d : Disk) (why : Refusal) → IsNotOpened path why e → (AreOpens (opens path (Some why) ∷ []) × IsCannotOpen path e) ⊎ ((why' : Unread) × IsNotRead why' e × StopsBy 16777216 why' d (opens path (Some why) ∷ []))
    by d refusal.Memory is = inr (unread.Memory, is, tt)
    by d refusal.Exists is = inl (tt, is)
    by d refusal.Other is = inl (tt, is)

pub first_not_read : (a b : Option Disk) (path : List ℕ) (left : Option (List ℕ)) (why : Unread) (e : Fault) → Told a b (opens path None) → Here b path left → (why ≡ unread.TooLong → IfSome left (λ known. 16777216 < length known)) → IsNotRead why e
    → Does a b (ReadsFiles path (Err e))
first_not_read a b path left why e told here long is =
    does_as a b (λ d. StopsBy 16777216 why d) (ReadsFiles path (Err e)) (not_read a b 16777216 path left why told here long) (λ d calls at stops. inr (why, is, stops))

-- the first file is read, and another isn't
module _ (a b c : Option Disk) (path text : List ℕ) (left : Option (List ℕ)) (e : Fault) (told : Told a b (opens path None)) (here : Here b path left) (same : IfSome left (λ known. text ≡ known)) (short : length text ≤ 16777216) where
  abbrev first : File
  first = record { path = path; text = Some text }

  room_after : (16777216 - length text) + size_of (first ∷ []) ≡ 16777216
  room_after = all_room (length text) short

  pub other_not_read : (why : Unread) → Does b c (λ d. StopsBy (16777216 - length text) why d) → IsNotRead why e → Does a c (ReadsFiles path (Err e))
  other_not_read why does is =
      does_as a c (λ d. StopsBy 16777216 why d) (ReadsFiles path (Err e))
      (stopped_after a b c (16777216 - length text) 16777216 (first ∷ []) why room_after (read a b path text left told here same) does)
      (λ d calls at stops. inr (why, is, stops))

  pub no_room : (more : List File) → Does b c (λ d. AreReadBy d more) → IsNotRead unread.Memory e → Does a c (ReadsFiles path (Err e))
  no_room more does is = other_not_read unread.Memory (memory_after b c (16777216 - length text) more does) is

pub files_read : (a b c : Option Disk) (path text : List ℕ) (left : Option (List ℕ)) (more : List File) (answer : ReadFiles) → Told a b (opens path None) → Here b path left → IfSome left (λ known. text ≡ known) → IfSome b (λ d. answer.mode ≡ d.mode_at path)
    → Does b c (λ d. AreReadBy d more) → map file_of answer.files.items ≡ record { path = path; text = Some text } ∷ more → IncludedBelow 15 (path ∷ []) (includes_in text) more → Does a c (ReadsFiles path (Ok answer))
files_read a b c path text left more answer told here same mode does are included =
    one_before a b c (opens path None) (λ d. AreReadBy d more) (ReadsFiles path (Ok answer)) told does
    (λ d calls at after read. (
      record { text = text; more = more; are = are; included = included },
      subst (λ (files : List File). AreReadBy d files (opens path None ∷ calls)) (sym are)
          (opens path None ∷ [], calls, refl, inr (inl (refl, text, refl, known_here d (opens path None) path left (λ known. text ≡ known) b after here same)), same_read d (opens path None ∷ []) more calls read),
      subst (λ (x : Option Disk). IfSome x (λ d. answer.mode ≡ d.mode_at path)) after mode,
    ))
