-- The words of a question, taken one after the other; the privileges as a set; and the text of a configuration.
use Rattle.std.proofs.Common.{◌≡◌, ℕ, suc, ◌+◌, ◌<◌, ◌≤◌, Bool, true, false, cond, List, [], ◌∷◌, ◌++◌, length, take, drop, get_or, Option, None, Some, Result, Ok, Err, refl, sym, ap, ◌∙◌, append_assoc, length-append, arith}
use Rattle.std.specs.List.{before_first}
use Rattle.std.specs.Prelude.{◌==◌, ok_or, option_and_then, option_map}
use Rattle.std.specs.Result.{result_ok}
use Rattle.std.proofs.lemmas.List.{length-take}
use Rattle.std.proofs.Math.Seq.{drop-cons}
use Rattle.dir_names.specs.declared.schema.TypeRow.{TypeRow}
use Rattle.dir_names.specs.Below.{is_at_or_below}
use Rattle.dir_names.specs.Cut.{after_first_separator}
use Rattle.dir_names.specs.Keys.{DnKeys}
use Rattle.dir_names.specs.NameKeys.{name_key, name_value_key}
use Rattle.dir_names.specs.Names.{SpelledName}
use Rattle.dir_names.specs.Names.Reading.{name_within_limits}
use Rattle.dir_names.specs.Results.{and_then}
use Rattle.dir_tree.specs.Content.{Content}
use Rattle.dir_tree.specs.Dir.{Dir, entry_at}
use Rattle.dir_acl.specs.declared.access.Asked.{Asked}
use Rattle.dir_acl.specs.declared.note.Note.{Note}
use Rattle.dir_acl.specs.declared.privileges.Level.{Level}
use Rattle.dir_tools.specs.declared.fault.Item.TheVariants as item
use Rattle.dir_tools.specs.declared.fault.ToolFault.{ToolFault}
use Rattle.dir_tools.specs.declared.fault.ToolFault.TheVariants as tool
use Rattle.dir_tools.specs.Inside.Asking.{IsPartFault}
use Rattle.dir_tools.specs.AccessReport.{AccessTerms, NamedKey, Word, access_of, asked_of, ok_or_no_entry, slash, target_of, without_value, word_at, word_of, words_from, named_key, parts_of, requester_of, words_of}
use Rattle.dir_tools.specs.WordNotes.{notes_on_word, notes_on_words}

-- ---- words

-- the words so far, and then those of the other texts
abbrev pub after_words : List Word → Result (List Word) ToolFault → Result (List Word) ToolFault
after_words before rest = and_then rest (λ words. Ok (before ++ words))

more_words : (before : List Word) (word : Word) (r : Result (List Word) ToolFault) → after_words before (and_then r (λ words. Ok (word ∷ words))) ≡ after_words (before ++ word ∷ []) r
more_words before word (Ok words) = ap Ok (sym (append_assoc before (word ∷ []) words))
more_words before word (Err fault) = refl

module _ (rows : List TypeRow) where
  abbrev word_then : List Word → ℕ → List (List ℕ) → Option Word → Result (List Word) ToolFault
  word_then before n texts word =
      after_words before (and_then (ok_or word (tool.BadQuestion (item.Word n))) (λ w. and_then (words_from rows (n + 1) texts) (λ words. Ok (w ∷ words))))

  -- one more word
  next_word : (before : List Word) (n : ℕ) (text : List ℕ) (texts : List (List ℕ)) (word : Word) → word_of rows text ≡ Some word
      → after_words before (words_from rows n (text ∷ texts)) ≡ after_words (before ++ word ∷ []) (words_from rows (n + 1) texts)
  next_word before n text texts word is = ap (word_then before n texts) is ∙ more_words before word (words_from rows (n + 1) texts)

  -- a faulty one
  bad_word : (before : List Word) (n : ℕ) (text : List ℕ) (texts : List (List ℕ)) → word_of rows text ≡ None → after_words before (words_from rows n (text ∷ texts)) ≡ Err (tool.BadQuestion (item.Word n))
  bad_word before n text texts is = ap (word_then before n texts) is

  at_index : (texts : List (List ℕ)) (i : ℕ) (text : List ℕ) → i < length texts → text ≡ get_or texts i text → drop i texts ≡ text ∷ drop (i + 1) texts
  at_index texts i text lt is =
      let one : suc i ≡ i + 1 = omega arith in
      drop-cons texts i text lt ∙ ap (λ t. t ∷ drop (suc i) texts) (sym is) ∙ ap (λ n. text ∷ drop n texts) one

  pub words_turn : (before : List Word) (texts : List (List ℕ)) (i : ℕ) (text : List ℕ) (word : Word) (wanted : Result (List Word) ToolFault)
      → wanted ≡ after_words before (words_from rows (i + 1) (drop i texts)) → i < length texts → text ≡ get_or texts i text → word_of rows text ≡ Some word
      → wanted ≡ after_words (before ++ word ∷ []) (words_from rows (i + 1 + 1) (drop (i + 1) texts))
  words_turn before texts i text word wanted so_far lt here is =
      so_far ∙ ap (λ t. after_words before (words_from rows (i + 1) t)) (at_index texts i text lt here) ∙ next_word before (i + 1) text (drop (i + 1) texts) word is

  -- one more word whose notes are made
  pub notes_turn : (before after wanted : List Note) (texts : List (List ℕ)) (i : ℕ) (text used : List ℕ)
      → wanted ≡ before ++ notes_on_words rows (drop i texts) → i < length texts → text ≡ get_or texts i text → used ≡ text → after ≡ before ++ notes_on_word rows used
      → wanted ≡ after ++ notes_on_words rows (drop (i + 1) texts)
  notes_turn before after wanted texts i text used so_far lt here same is =
      let more : List Note = notes_on_words rows (drop (i + 1) texts) in
      let made : after ≡ before ++ notes_on_word rows text = is ∙ ap (λ (t : List ℕ). before ++ notes_on_word rows t) same in
      so_far ∙ ap (λ (t : List (List ℕ)). before ++ notes_on_words rows t) (at_index texts i text lt here) ∙ sym (append_assoc before (notes_on_word rows text) more) ∙ ap (λ (t : List Note). t ++ more) (sym made)

  pub words_stop : (before : List Word) (texts : List (List ℕ)) (i : ℕ) (text : List ℕ) (wanted : Result (List Word) ToolFault)
      → wanted ≡ after_words before (words_from rows (i + 1) (drop i texts)) → i < length texts → text ≡ get_or texts i text → word_of rows text ≡ None
      → wanted ≡ Err (tool.BadQuestion (item.Word (i + 1)))
  words_stop before texts i text wanted so_far lt here is =
      so_far ∙ ap (λ t. after_words before (words_from rows (i + 1) t)) (at_index texts i text lt here) ∙ bad_word before (i + 1) text (drop (i + 1) texts) is

-- ---- one word

-- a word as it is cut
module _ (rows : List TypeRow) (text used attr : List ℕ) (access : Option (List ℕ)) (used_is : used ≡ without_value text) (attr_is : attr ≡ before_first (λ b. b == slash) used)
    (access_is : access ≡ after_first_separator slash used) where
  cut_so : word_of rows text ≡ word_at rows attr access
  cut_so =
      let attr_whole : attr ≡ before_first (λ b. b == slash) (without_value text) = attr_is ∙ ap (before_first (λ b. b == slash)) used_is in
      let access_whole : access ≡ after_first_separator slash (without_value text) = access_is ∙ ap (after_first_separator slash) used_is in
      sym (λ i. word_at rows (attr_whole i) (access_whole i))

  abbrev word_by : Option Asked → Option (Option (List ℕ × Level)) → Option Word
  word_by asked level = option_and_then (λ a. option_map (λ l. record { attr = attr; asked = a; access = l }) level) asked

  pub no_attr : asked_of rows attr ≡ None → None ≡ word_of rows text
  no_attr is = sym (cut_so ∙ ap (λ asked. word_by asked (access_of access)) is)

  pub no_access : (asked : Asked) → asked_of rows attr ≡ Some asked → access_of access ≡ None → None ≡ word_of rows text
  no_access asked is level = sym (cut_so ∙ (λ i. word_by (is i) (level i)))

  pub whole_word : (asked : Asked) (level : Option (List ℕ × Level)) → asked_of rows attr ≡ Some asked → access_of access ≡ Some level → Some (record { attr = attr; asked = asked; access = level }) ≡ word_of rows text
  whole_word asked level is level_is = sym (cut_so ∙ (λ i. word_by (is i) (level_is i)))

-- ---- the target

module _ (fake : Bool) (d : Dir) (base : DnKeys) where
  abbrev target_by : Bool → Bool → Option Content → Result (Option Content) ToolFault
  target_by inside made_up there = cond inside (cond made_up (Ok None) (ok_or_no_entry there)) (Err tool.NoEntry)

  pub outside : is_at_or_below base d.suffix ≡ false → target_of fake d base ≡ Err tool.NoEntry
  outside out = ap (λ b. target_by b fake (entry_at d base)) out

  pub made_up : is_at_or_below base d.suffix ≡ true → fake ≡ true → target_of fake d base ≡ Ok None
  made_up inside is i = target_by (inside i) (is i) (entry_at d base)

  pub looked_up : is_at_or_below base d.suffix ≡ true → fake ≡ false → (there : Option Content) → entry_at d base ≡ there → target_of fake d base ≡ ok_or_no_entry there
  looked_up inside is there found i = target_by (inside i) (is i) (found i)

-- ---- the text of a configuration

-- a piece of the buffer after a text that is not too long
pub piece_fits : (text buffer : List ℕ) (n : ℕ) → length text ≤ 16777216 → n ≤ length buffer → length buffer ≡ 8192 → length (text ++ take n buffer) ≤ 16785408
piece_fits text buffer n short within size = omega (arith, length-append text (take n buffer), length-take n buffer)

-- ---- the parts

with_key : (name other : SpelledName) (key : DnKeys) (o : Option DnKeys) → option_map {U = NamedKey} (λ k. (other, k)) o ≡ Some (name, key) → o ≡ Some key
with_key name other key None is = absurd (cc)
with_key name other key (Some k) is = ap (option_map {U = DnKeys} (λ named. named.1)) is

-- the name of the base has a key
pub named_base : (rows : List TypeRow) (text : List ℕ) (name : SpelledName) (key : DnKeys) → named_key rows text ≡ Some (name, key) → name_value_key rows text ≡ Some key
named_base rows text name key is = by (result_ok (name_within_limits text)) is
  where
    by : (o : Option SpelledName) → option_and_then {U = NamedKey} (λ n. option_map {U = NamedKey} (λ k. (n, k)) (name_key rows n)) o ≡ Some (name, key) → option_and_then (name_key rows) o ≡ Some key
    by None h = absurd (cc)
    by (Some n) h = with_key name n key (name_key rows n) h

-- the fault of the words is that of the question
pub words_fault : (t : AccessTerms) (base : DnKeys) (requester : Option NamedKey) (fault : ToolFault) → name_value_key t.rows t.question.base ≡ Some base → requester_of t.rows t.question.authc ≡ Some requester
    → IsPartFault fault (words_of t.rows t.question.words) → IsPartFault fault (parts_of t)
words_fault t base requester (tool.BadQuestion part) named asked bad = λ i.
    and_then (ok_or (named i) (tool.BadQuestion item.Base)) (λ base.
    and_then (ok_or (asked i) (tool.BadQuestion item.Authc)) (λ requester.
    and_then (bad i) (λ words. Ok (record { base = base; requester = requester; words = words }))))
words_fault t base requester tool.Memory named asked bad = tt
words_fault t base requester (tool.BadCopy line why) named asked bad = absurd (bad)
words_fault t base requester (tool.Read input) named asked bad = absurd (bad)
words_fault t base requester (tool.Write output) named asked bad = absurd (bad)
words_fault t base requester (tool.BadChanges fault) named asked bad = absurd (bad)
words_fault t base requester (tool.Config fault) named asked bad = absurd (bad)
words_fault t base requester tool.NoEntry named asked bad = absurd (bad)
words_fault t base requester (tool.TooFewGroups groups) named asked bad = absurd (bad)

-- that of the requester too
pub requester_fault : (t : AccessTerms) (base : DnKeys) → name_value_key t.rows t.question.base ≡ Some base → requester_of t.rows t.question.authc ≡ None → parts_of t ≡ Err (tool.BadQuestion item.Authc)
requester_fault t base named none = λ i.
    and_then (ok_or (named i) (tool.BadQuestion item.Base)) (λ base.
    and_then (ok_or (none i) (tool.BadQuestion item.Authc)) (λ requester.
    and_then (words_of t.rows t.question.words) (λ words. Ok (record { base = base; requester = requester; words = words }))))
