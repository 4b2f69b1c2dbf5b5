-- The lines of a configuration without a note.
use Rattle.std.proofs.Common.{◌≡◌, ℕ, Bool, true, false, cond, not, List, [], ◌∷◌, ◌++◌, length, Option, Some, None, Result, Ok, Err, refl, sym, ap, ◌∙◌, subst}
use Rattle.std.specs.Prelude.{◌&&◌, ◌||◌, codes, is_some, nat_lt}
use Rattle.std.specs.List.{list_all}
use Rattle.dir_names.specs.Keys.{DnKeys}
use Rattle.dir_names.specs.Results.{and_then}
use Rattle.dir_names.specs.declared.schema.TypeRow.{TypeRow}
use Rattle.dir_acl.specs.declared.fault.ConfigCause.{ConfigCause}
use Rattle.dir_acl.specs.declared.fault.ConfigCause.TheVariants.{BadDirective, SecondDatabase, SecondSuffix, GlobalAccess, ConfigTooLong}
use Rattle.dir_acl.specs.declared.fault.ConfigFault.{ConfigFault}
use Rattle.dir_acl.specs.declared.note.NoteCause.TheVariants.{Include, NoRule}
use Rattle.dir_acl.specs.Config.{Settings, no_settings, access, after_arguments, after_line, after_lines, at_line, config_of, config_of_lines, database, first_argument, if_complete, if_last, of_database, of_suffix, other_than_database, rootdn, suffix, suffix_at, with_rule}
use Rattle.dir_acl.specs.Config.AccessRules.{access_rule_of}
use Rattle.dir_conf_text.specs.Text.{config_lines, words_by}
use Rattle.dir_conf_text.specs.declared.text.ConfigLine.{ConfigLine}
use Rattle.dir_conf_text.specs.declared.text.Said.{Said}
use Rattle.dir_conf_text.specs.Keywords.{is_word}
use Rattle.dir_acl.specs.Config.Names.{name_at}
use Rattle.dir_acl.specs.Notes.{begins_with, file_of, is_rule, line_notes, lines_notes, note_at, notes_of, notes_of_lines, passed_after, read_notes, rule_notes}
use Rattle.dir_acl.specs.Notes.Known.{AreUnderstood, rule_known}
use Rattle.dir_acl.specs.Notes.Supertypes.{NotedTypes, noted_types}
use Rattle.dir_acl.specs.Rules.{AccessRule, Configuration}
use Rattle.dir_acl.proofs.NoNotes.Lists.{all_pushed, both_words, left_empty, right_empty}
use Rattle.dir_acl.proofs.NoNotes.Rules.{rule_is_known}

pushed_is_some : (rules : List AccessRule) (rule : AccessRule) → rules ++ rule ∷ [] ≡ [] → ⊥
pushed_is_some [] rule e = cc
pushed_is_some (r ∷ rules) rule e = cc

-- ---- a directive that is no rule leaves the rules, and in a part as before

-- the settings that a directive gives have the rules of these, and are passed over or not
abbrev pub Keeps : List AccessRule → Bool → Result Settings ConfigCause → Type 0
Keeps rules passed (Err c) = Unit {0}
Keeps rules passed (Ok next) = (next.rules ≡ rules) × (next.is_passed_over ≡ passed)

pub keeps_complete : (arguments : List (Option (List ℕ))) (s : Settings) → Keeps s.rules s.is_passed_over (if_complete arguments s)
keeps_complete arguments s = by (list_all is_some arguments)
  where
    by : (b : Bool) → Keeps s.rules s.is_passed_over (cond b (Ok s) (Err BadDirective))
    by true = (refl, refl)
    by false = tt

keeps_last : (arguments : List (Option (List ℕ))) (c : ConfigCause) (s : Settings) → Keeps s.rules s.is_passed_over (if_last arguments c s)
keeps_last [] c s = (refl, refl)
keeps_last (None ∷ more) c s = tt
keeps_last (Some argument ∷ more) c s = tt

module _ (types : NotedTypes) where
  pub keeps_suffix : (s : Settings) (arguments : List (Option (List ℕ))) → Keeps s.rules s.is_passed_over (suffix types.rows s arguments)
  keeps_suffix s arguments = by s.has_database (is_some s.suffix) (first_argument arguments)
    where
      named : (more : List (Option (List ℕ))) (r : Result DnKeys ConfigCause) → Keeps s.rules s.is_passed_over (and_then r (λ name. if_last more SecondSuffix (record s { suffix = Some name })))
      named more (Err c) = tt
      named more (Ok name) = keeps_last more SecondSuffix (record s { suffix = Some name })

      by : (a b : Bool) (r : Result (List ℕ × List (Option (List ℕ))) ConfigCause)
          → Keeps s.rules s.is_passed_over (cond (not a) (Err BadDirective) (cond b (Err SecondSuffix) (and_then r (λ p. and_then (suffix_at types.rows p.0) (λ name. if_last p.1 SecondSuffix (record s { suffix = Some name }))))))
      by false b r = tt
      by true true r = tt
      by true false (Err c) = tt
      by true false (Ok p) = named p.1 (suffix_at types.rows p.0)

  pub keeps_rootdn : (s : Settings) (arguments : List (Option (List ℕ))) → Keeps s.rules s.is_passed_over (rootdn types.rows s arguments)
  keeps_rootdn s arguments = by (not s.has_database || is_some s.root) (first_argument arguments)
    where
      named : (more : List (Option (List ℕ))) (r : Result DnKeys ConfigCause) → Keeps s.rules s.is_passed_over (and_then r (λ name. if_last more BadDirective (record s { root = Some name })))
      named more (Err c) = tt
      named more (Ok name) = keeps_last more BadDirective (record s { root = Some name })

      by : (a : Bool) (r : Result (List ℕ × List (Option (List ℕ))) ConfigCause)
          → Keeps s.rules s.is_passed_over (cond a (Err BadDirective) (and_then r (λ p. and_then (name_at types.rows p.0) (λ name. if_last p.1 BadDirective (record s { root = Some name })))))
      by true r = tt
      by false (Err c) = tt
      by false (Ok p) = named p.1 (name_at types.rows p.0)

  pub keeps_database : (s : Settings) (name : List ℕ) (more : List (Option (List ℕ))) → Keeps s.rules (is_word name (codes "config") || is_word name (codes "monitor")) (of_database s name more)
  keeps_database s name more = by (is_word name (codes "config") || is_word name (codes "monitor")) s.has_database
    where
      by : (a b : Bool) → Keeps s.rules a (cond a (if_complete more (record s { is_passed_over = true })) (cond b (Err SecondDatabase) (if_complete more (record s { has_database = true; is_passed_over = false }))))
      by true b = keeps_complete more (record s { is_passed_over = true })
      by false true = tt
      by false false = keeps_complete more (record s { has_database = true; is_passed_over = false })

  -- ---- one line

  module _ (n : ℕ) where
    -- what is so after a line without a note, where `has` tells whether there was a rule before
    abbrev IsSo : Bool → Settings → Type 0
    IsSo has s = (has ≡ true → s.rules ≡ [] → ⊥) × (list_all (rule_known types) s.rules ≡ true)

    abbrev GoesOn : Bool → Bool → Result Settings ConfigCause → Type 0
    GoesOn passed has (Err c) = Unit {0}
    GoesOn passed has (Ok next) = (next.is_passed_over ≡ passed) × IsSo has next

    module _ (s : Settings) (has : Bool) (so : IsSo has s) where
      -- a line that is no rule
      kept : (passed : Bool) (r : Result Settings ConfigCause) → Keeps s.rules passed r → GoesOn passed has r
      kept passed (Err c) k = tt
      kept passed (Ok next) k = (k.1, ((λ e f. so.0 e (sym k.0 ∙ f)), ap (list_all (rule_known types)) k.0 ∙ so.1))

      no_more : (passed : Bool) (r : Result Settings ConfigCause) (more : Bool) → more ≡ false → GoesOn passed has r → GoesOn passed (has || more) r
      no_more passed (Err c) more w g = tt
      no_more passed (Ok next) more w g = (g.0, ((λ e. g.1.0 (or_false has more w e)), g.1.1))
        where
          or_false : (x y : Bool) → y ≡ false → (x || y) ≡ true → x ≡ true
          or_false true y w e = refl
          or_false false y w e = absurd (cc)

      rule_goes_on : (words : List (Option (List ℕ))) → rule_notes types n words ≡ [] → (passed : Bool) → s.is_passed_over ≡ passed → GoesOn passed (has || true) (access types.rows s words)
      rule_goes_on words notes passed same = by s.has_database (access_rule_of types.rows words) refl
        where
          by : (b : Bool) (r : Result AccessRule ConfigCause) → access_rule_of types.rows words ≡ r → GoesOn passed (has || true) (cond (not b) (Err GlobalAccess) (and_then r (λ rule. Ok (with_rule s rule))))
          by false r w = tt
          by true (Err c) w = tt
          by true (Ok rule) w =
              (same, ((λ e f. pushed_is_some s.rules rule f), all_pushed (rule_known types) s.rules rule so.1 (rule_is_known types n words rule w notes)))

      -- a directive other than `database`
      other_goes_on : (keyword : List ℕ) (words : List (Option (List ℕ))) (passed : Bool) → s.is_passed_over ≡ passed → line_notes types passed n (Some keyword ∷ words) ≡ []
          → GoesOn passed (has || (not passed && is_word keyword (codes "access"))) (other_than_database types.rows s keyword words)
      other_goes_on keyword words passed same notes = by passed same notes
        where
          complete : Keeps s.rules s.is_passed_over (if_complete words s)
          complete = keeps_complete words s

          not_rule : (word : List ℕ) → is_word keyword word ≡ true → is_word word (codes "access") ≡ false → is_word keyword (codes "access") ≡ false
          not_rule word is isnt = either (is_word keyword (codes "access")) refl
            where
              either : (b : Bool) → is_word keyword (codes "access") ≡ b → b ≡ false
              either false w = refl
              either true w = let both = both_words keyword word (codes "access") is w in absurd (cc)

          directives : s.is_passed_over ≡ false → read_notes types n (Some keyword ∷ words) ≡ []
              → (a b c : Bool) → is_word keyword (codes "suffix") ≡ a → is_word keyword (codes "rootdn") ≡ b → is_word keyword (codes "access") ≡ c
              → GoesOn false (has || c) (cond a (suffix types.rows s words) (cond b (rootdn types.rows s words) (cond c (access types.rows s words) (if_complete words s))))
          directives same notes true b c u v w =
              no_more false (suffix types.rows s words) c (sym w ∙ not_rule (codes "suffix") u refl) (subst (λ p. GoesOn p has (suffix types.rows s words)) same (kept s.is_passed_over (suffix types.rows s words) (keeps_suffix s words)))
          directives same notes false true c u v w =
              no_more false (rootdn types.rows s words) c (sym w ∙ not_rule (codes "rootdn") v refl) (subst (λ p. GoesOn p has (rootdn types.rows s words)) same (kept s.is_passed_over (rootdn types.rows s words) (keeps_rootdn s words)))
          directives same notes false false true u v w =
              rule_goes_on words (sym (ap (λ t. cond t (rule_notes types n words) (cond (is_word keyword (codes "include")) (note_at n (Include (file_of words)) ∷ []) [])) w) ∙ notes) false same
          directives same notes false false false u v w =
              no_more false (if_complete words s) false refl (subst (λ p. GoesOn p has (if_complete words s)) same (kept s.is_passed_over (if_complete words s) complete))

          unpassed : Result Settings ConfigCause
          unpassed = cond (is_word keyword (codes "suffix")) (suffix types.rows s words) (cond (is_word keyword (codes "rootdn")) (rootdn types.rows s words) (cond (is_word keyword (codes "access")) (access types.rows s words) (if_complete words s)))

          by : (p : Bool) → s.is_passed_over ≡ p → line_notes types p n (Some keyword ∷ words) ≡ []
              → GoesOn p (has || (not p && is_word keyword (codes "access"))) (cond s.is_passed_over (if_complete words s) unpassed)
          by true same notes =
              subst (λ t. GoesOn true (has || false) (cond t (if_complete words s) unpassed)) (sym same)
              (no_more true (if_complete words s) false refl (subst (λ p. GoesOn p has (if_complete words s)) same (kept s.is_passed_over (if_complete words s) complete)))
          by false same notes =
              subst (λ t. GoesOn false (has || is_word keyword (codes "access")) (cond t (if_complete words s) unpassed)) (sym same)
              (directives same notes (is_word keyword (codes "suffix")) (is_word keyword (codes "rootdn")) (is_word keyword (codes "access")) refl refl refl)

      -- the words of a line
      words_go_on : (words : List (Option (List ℕ))) → line_notes types s.is_passed_over n words ≡ []
          → GoesOn (passed_after s.is_passed_over words) (has || is_rule s.is_passed_over words) (after_arguments types.rows s words)
      words_go_on [] notes = no_more s.is_passed_over (Ok s) (not s.is_passed_over && false) (and_false (not s.is_passed_over)) (refl, so)
        where
          and_false : (b : Bool) → (b && false) ≡ false
          and_false true = refl
          and_false false = refl
      words_go_on (None ∷ words) notes = tt
      words_go_on (Some keyword ∷ words) notes = by (is_word keyword (codes "database")) refl
        where
          no_rule : is_word keyword (codes "database") ≡ true → (p c : Bool) → is_word keyword (codes "access") ≡ c → (not p && c) ≡ false
          no_rule is true c w = refl
          no_rule is false false w = refl
          no_rule is false true w = let both = both_words keyword (codes "database") (codes "access") is w in absurd (cc)

          named : (words : List (Option (List ℕ))) → is_word keyword (codes "database") ≡ true → (more : Bool) → more ≡ false
              → GoesOn (passed_after s.is_passed_over (Some keyword ∷ words)) (has || more) (database s words)
          named [] is more none = tt
          named (None ∷ words) is more none = tt
          named (Some name ∷ words) is more none =
              subst (λ t. GoesOn (cond t (is_word name (codes "config") || is_word name (codes "monitor")) s.is_passed_over) (has || more) (of_database s name words)) (sym is)
              (no_more (is_word name (codes "config") || is_word name (codes "monitor")) (of_database s name words) more none
              (kept (is_word name (codes "config") || is_word name (codes "monitor")) (of_database s name words) (keeps_database s name words)))

          by : (b : Bool) → is_word keyword (codes "database") ≡ b
              → GoesOn (passed_after s.is_passed_over (Some keyword ∷ words)) (has || is_rule s.is_passed_over (Some keyword ∷ words)) (cond b (database s words) (other_than_database types.rows s keyword words))
          by true w = named words w (is_rule s.is_passed_over (Some keyword ∷ words)) (no_rule w s.is_passed_over (is_word keyword (codes "access")) refl)
          by false w =
              subst (λ t. GoesOn (cond t (begins_with words (codes "config") || begins_with words (codes "monitor")) s.is_passed_over) (has || is_rule s.is_passed_over (Some keyword ∷ words)) (other_than_database types.rows s keyword words)) (sym w)
              (other_goes_on keyword words s.is_passed_over refl notes)

      line_goes_on : (said : Said) → line_notes types s.is_passed_over n (words_by said) ≡ []
          → GoesOn (passed_after s.is_passed_over (words_by said)) (has || is_rule s.is_passed_over (words_by said)) (after_line types.rows s said)
      line_goes_on said notes = words_go_on (words_by said) notes

  -- ---- all lines

  abbrev AllSo : Result Settings ConfigFault → Type 0
  AllSo (Err fault) = Unit {0}
  AllSo (Ok s) = (s.rules ≡ [] → ⊥) × (list_all (rule_known types) s.rules ≡ true)

  all_lines : (lines : List ConfigLine) (s : Settings) (passed has : Bool) → s.is_passed_over ≡ passed → (has ≡ true → s.rules ≡ [] → ⊥) → list_all (rule_known types) s.rules ≡ true → lines_notes types passed has lines ≡ []
      → AllSo (after_lines types.rows s lines)
  all_lines [] s passed has same some known notes = (some (by has notes), known)
    where
      by : (b : Bool) → cond b [] (note_at 0 NoRule ∷ []) ≡ [] → b ≡ true
      by true e = refl
      by false e = absurd (cc)
  all_lines (line ∷ lines) s passed has same some known notes =
      by (λ next. all_lines lines next (passed_after s.is_passed_over (words_by line.said)) (has || is_rule s.is_passed_over (words_by line.said)))
      (after_line types.rows s line.said)
      (line_goes_on line.number s has (some, known) line.said (ap (λ p. line_notes types p line.number (words_by line.said)) same ∙ left_empty (line_notes types passed line.number (words_by line.said)) _ notes))
    where
      rest : lines_notes types (passed_after passed (words_by line.said)) (has || is_rule passed (words_by line.said)) lines ≡ []
      rest = right_empty (line_notes types passed line.number (words_by line.said)) _ notes

      by : ((next : Settings) → next.is_passed_over ≡ passed_after s.is_passed_over (words_by line.said) → ((has || is_rule s.is_passed_over (words_by line.said)) ≡ true → next.rules ≡ [] → ⊥) → list_all (rule_known types) next.rules ≡ true
          → lines_notes types (passed_after s.is_passed_over (words_by line.said)) (has || is_rule s.is_passed_over (words_by line.said)) lines ≡ [] → AllSo (after_lines types.rows next lines))
          → (r : Result Settings ConfigCause) → GoesOn line.number (passed_after s.is_passed_over (words_by line.said)) (has || is_rule s.is_passed_over (words_by line.said)) r
          → AllSo (and_then (at_line line.number r) (λ next. after_lines types.rows next lines))
      by more (Err c) g = tt
      by more (Ok next) g = more next g.0 g.1.0 g.1.1 (ap (λ p. lines_notes types (passed_after p (words_by line.said)) (has || is_rule p (words_by line.said)) lines) same ∙ rest)

module _ (rows : List TypeRow) where
  understood_lines : (lines : List ConfigLine) (config : Configuration) → config_of_lines rows lines ≡ Ok config → notes_of_lines rows lines ≡ [] → AreUnderstood (noted_types rows lines) config
  understood_lines lines config e notes = by (after_lines rows no_settings lines) (all_lines (noted_types rows lines) lines no_settings false false refl (λ no. absurd (cc)) refl notes) e
    where
      named : (s : Settings) (name : Option DnKeys) → (s.rules ≡ [] → ⊥) × (list_all (rule_known (noted_types rows lines)) s.rules ≡ true) → of_suffix s name ≡ Ok config → AreUnderstood (noted_types rows lines) config
      named s None so e = absurd (cc)
      named s (Some name) so e =
          let same : record { suffix = name; root = s.root; rules = s.rules } ≡ config = cc in
          subst (AreUnderstood (noted_types rows lines)) same so

      by : (r : Result Settings ConfigFault) → AllSo (noted_types rows lines) r → and_then r (λ s. of_suffix s s.suffix) ≡ Ok config → AreUnderstood (noted_types rows lines) config
      by (Err fault) so e = absurd (cc)
      by (Ok s) so e = named s s.suffix so e

  pub understood : (text : List ℕ) (config : Configuration) → config_of rows text ≡ Ok config → notes_of rows text ≡ [] → AreUnderstood (noted_types rows (config_lines text)) config
  understood text config e notes = by (nat_lt 16777216 (length text)) e
    where
      by : (b : Bool) → and_then (cond b (Err (record { line = 0; cause = ConfigTooLong })) (Ok (config_lines text))) (config_of_lines rows) ≡ Ok config → AreUnderstood (noted_types rows (config_lines text)) config
      by true e = absurd (cc)
      by false e = understood_lines (config_lines text) config e notes
