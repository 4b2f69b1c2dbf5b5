-- What a line does to the settings, as the notes tell it: which lines after it are passed over, and which rule was read.
use Rattle.std.proofs.Common.{◌≡◌, ℕ, suc, ◌-◌, Bool, true, false, cond, not, List, [], ◌∷◌, ◌++◌, length, Option, Some, None, Bor, Result, Ok, Err, refl, sym, ap, ◌∙◌, subst, arith}
use Rattle.std.specs.Prelude.{◌&&◌, ◌||◌, IfSome, codes, map}
use Rattle.std.specs.Option.{option_copied}
use Rattle.std.specs.List.{slice_get}
use Rattle.std.proofs.lemmas.List.{append_assoc}
use Rattle.dir_names.specs.Results.{and_then}
use Rattle.dir_conf_text.specs.Keywords.{is_word}
use Rattle.dir_conf_text.specs.Text.{words_by}
use Rattle.dir_conf_text.specs.declared.text.ConfigLine.{ConfigLine}
use Rattle.dir_conf_text.specs.declared.text.Said.{Said}
use Rattle.dir_acl.specs.declared.access.Rule.{Rule}
use Rattle.dir_acl.specs.declared.config.directives.Settings as declared
use Rattle.dir_acl.specs.declared.fault.ConfigCause.{ConfigCause}
use Rattle.dir_acl.specs.declared.fault.ConfigCause.TheVariants.{GlobalAccess}
use Rattle.dir_acl.specs.declared.note.Note.{Note}
use Rattle.dir_acl.specs.Config.{Settings, access, after_arguments, after_line, after_lines, at_line, database, no_settings, if_complete, of_database, other_than_database, rootdn, suffix, with_rule}
use Rattle.dir_acl.specs.Config.AccessRules.{access_rule_of}
use Rattle.dir_acl.specs.Inside.Noting.{has_rules}
use Rattle.dir_acl.specs.Inside.ReadingConfig.{settings_of}
use Rattle.dir_acl.specs.Notes.{after_keyword, begins_with, is_rule, line_notes, lines_notes, passed_after}
use Rattle.dir_acl.specs.Notes.Supertypes.{NotedTypes}
use Rattle.dir_acl.specs.Rules.{AccessRule, rule_of}
use Rattle.dir_acl.proofs.NoNotes.Lines.{Keeps, keeps_complete, keeps_database, keeps_rootdn, keeps_suffix}
use Rattle.dir_acl.proofs.NoNotes.Lists.{both_words}

-- ---- the last of some rules

pub last_is : (rules : List Rule) (before : List AccessRule) (rule : AccessRule) (last : Rule) → map rule_of rules ≡ before ++ rule ∷ [] → slice_get rules (length rules - 1) ≡ Some last → rule ≡ rule_of last
last_is [] before rule last e at = absurd (cc)
last_is (r ∷ []) [] rule last e at = cc
last_is (r ∷ []) (b ∷ []) rule last e at = absurd (cc)
last_is (r ∷ []) (b ∷ c ∷ before) rule last e at = absurd (cc)
last_is (r ∷ s ∷ rules) [] rule last e at = absurd (cc)
last_is (r ∷ s ∷ rules) (b ∷ before) rule last e at =
    let here : suc (suc (length rules)) - 1 ≡ suc (length rules) = omega arith in
    let there : suc (length rules) - 1 ≡ length rules = omega arith in
    last_is (s ∷ rules) before rule last (cc) (ap (slice_get (s ∷ rules)) there ∙ ap (slice_get (r ∷ s ∷ rules)) (sym here) ∙ at)

has_pushed : (rules : List AccessRule) (rule : AccessRule) → has_rules (rules ++ rule ∷ []) ≡ true
has_pushed [] rule = refl
has_pushed (r ∷ rules) rule = refl

or_false : (b c : Bool) → c ≡ false → b ≡ (b || c)
or_false true c e = refl
or_false false c e = sym e

or_true : (b c : Bool) → c ≡ true → true ≡ (b || c)
or_true true c e = refl
or_true false c e = sym e

module _ (types : NotedTypes) where
  -- the last rule is the one that these words give
  pub record IsReadLast (words : List (Option (List ℕ))) (rules : List AccessRule) : Type 0 where
    pub before : List AccessRule
    pub rule : AccessRule
    pub read : access_rule_of types.rows words ≡ Ok rule
    pub last : rules ≡ before ++ rule ∷ []

  pub record Follows (s : Settings) (words : List (Option (List ℕ))) (next : Settings) : Type 0 where
    pub passed : passed_after s.is_passed_over words ≡ next.is_passed_over
    pub read : is_rule s.is_passed_over words ≡ true → IsReadLast (after_keyword words) next.rules
    pub has : has_rules next.rules ≡ (has_rules s.rules || is_rule s.is_passed_over words)

  abbrev IfFollows : Settings → List (Option (List ℕ)) → Result Settings ConfigCause → Type 0
  IfFollows s words (Err c) = Unit {0}
  IfFollows s words (Ok next) = Follows s words next

  module _ (s : Settings) where
    -- a line that is no rule
    no_rule : (words : List (Option (List ℕ))) (passed : Bool) (r : Result Settings ConfigCause) → is_rule s.is_passed_over words ≡ false → passed_after s.is_passed_over words ≡ passed → Keeps s.rules passed r → IfFollows s words r
    no_rule words passed (Err c) isnt e kept = tt
    no_rule words passed (Ok next) isnt e kept = record {
      passed = e ∙ sym kept.1;
      read = λ is. absurd (cc);
      has = ap has_rules kept.0 ∙ or_false (has_rules s.rules) (is_rule s.is_passed_over words) isnt;
    }

    a_rule : (keyword : List ℕ) (words : List (Option (List ℕ))) → is_word keyword (codes "access") ≡ true → s.is_passed_over ≡ false → is_word keyword (codes "database") ≡ false → IfFollows s (Some keyword ∷ words) (access types.rows s words)
    a_rule keyword words is unpassed isnt = by s.has_database (access_rule_of types.rows words) refl
      where
        rule_is : is_rule s.is_passed_over (Some keyword ∷ words) ≡ true
        rule_is = λ i. not (unpassed i) && is i

        by : (b : Bool) (r : Result AccessRule ConfigCause) → access_rule_of types.rows words ≡ r → IfFollows s (Some keyword ∷ words) (cond (not b) (Err GlobalAccess) (and_then r (λ rule. Ok (with_rule s rule))))
        by false r w = tt
        by true (Err c) w = tt
        by true (Ok rule) w = record {
          passed = ap (λ t. cond t (begins_with words (codes "config") || begins_with words (codes "monitor")) s.is_passed_over) isnt;
          read = λ is. record { before = s.rules; rule = rule; read = w; last = refl };
          has = has_pushed s.rules rule ∙ or_true (has_rules s.rules) (is_rule s.is_passed_over (Some keyword ∷ words)) rule_is;
        }

    -- a directive other than `database`
    others_follow : (keyword : List ℕ) (words : List (Option (List ℕ))) → is_word keyword (codes "database") ≡ false → IfFollows s (Some keyword ∷ words) (other_than_database types.rows s keyword words)
    others_follow keyword words isnt = by s.is_passed_over refl
      where
        same : passed_after s.is_passed_over (Some keyword ∷ words) ≡ s.is_passed_over
        same = ap (λ t. cond t (begins_with words (codes "config") || begins_with words (codes "monitor")) s.is_passed_over) isnt

        not_access : (word : List ℕ) → is_word keyword word ≡ true → is_word word (codes "access") ≡ false → is_word keyword (codes "access") ≡ false
        not_access word is other = either (is_word keyword (codes "access")) refl
          where
            either : (b : Bool) → is_word keyword (codes "access") ≡ b → b ≡ false
            either false w = refl
            either true w = let both = both_words keyword word (codes "access") is w in absurd (cc)

        and_false : (p c : Bool) → c ≡ false → (not p && c) ≡ false
        and_false true c e = refl
        and_false false c e = e

        plain : (r : Result Settings ConfigCause) → is_word keyword (codes "access") ≡ false → Keeps s.rules s.is_passed_over r → IfFollows s (Some keyword ∷ words) r
        plain r isnt kept = no_rule (Some keyword ∷ words) s.is_passed_over r (and_false s.is_passed_over (is_word keyword (codes "access")) isnt) same kept

        directives : s.is_passed_over ≡ false → (a b c : Bool) → is_word keyword (codes "suffix") ≡ a → is_word keyword (codes "rootdn") ≡ b → is_word keyword (codes "access") ≡ c
            → IfFollows s (Some keyword ∷ words) (cond a (suffix types.rows s words) (cond b (rootdn types.rows s words) (cond c (access types.rows s words) (if_complete words s))))
        directives unpassed true b c u v w = plain (suffix types.rows s words) (not_access (codes "suffix") u refl) (keeps_suffix types s words)
        directives unpassed false true c u v w = plain (rootdn types.rows s words) (not_access (codes "rootdn") v refl) (keeps_rootdn types s words)
        directives unpassed false false true u v w = a_rule keyword words w unpassed isnt
        directives unpassed false false false u v w = plain (if_complete words s) w (keeps_complete words s)

        by : (p : Bool) → s.is_passed_over ≡ p
            → IfFollows s (Some keyword ∷ words) (cond p (if_complete words s) (cond (is_word keyword (codes "suffix")) (suffix types.rows s words) (cond (is_word keyword (codes "rootdn")) (rootdn types.rows s words) (cond (is_word keyword (codes "access")) (access types.rows s words) (if_complete words s)))))
        by true w = no_rule (Some keyword ∷ words) s.is_passed_over (if_complete words s) (λ i. not (w i) && is_word keyword (codes "access")) same (keeps_complete words s)
        by false w = directives w (is_word keyword (codes "suffix")) (is_word keyword (codes "rootdn")) (is_word keyword (codes "access")) refl refl refl

    words_follow : (words : List (Option (List ℕ))) → IfFollows s words (after_arguments types.rows s words)
    words_follow [] = record { passed = refl; read = λ is. absurd (no s.is_passed_over is); has = or_false (has_rules s.rules) (not s.is_passed_over && false) (never s.is_passed_over) }
      where
        never : (p : Bool) → (not p && false) ≡ false
        never true = refl
        never false = refl

        no : (p : Bool) → (not p && false) ≡ true → ⊥
        no true e = cc
        no false e = cc
    words_follow (None ∷ words) = tt
    words_follow (Some keyword ∷ words) = by (is_word keyword (codes "database")) refl
      where
        isnt : is_word keyword (codes "database") ≡ true → (p c : Bool) → is_word keyword (codes "access") ≡ c → (not p && c) ≡ false
        isnt is true c w = refl
        isnt is false false w = refl
        isnt is false true w = let both = both_words keyword (codes "database") (codes "access") is w in absurd (cc)

        named : (words : List (Option (List ℕ))) → is_word keyword (codes "database") ≡ true → IfFollows s (Some keyword ∷ words) (database s words)
        named [] is = tt
        named (None ∷ words) is = tt
        named (Some name ∷ words) is =
            no_rule (Some keyword ∷ Some name ∷ words) (is_word name (codes "config") || is_word name (codes "monitor")) (of_database s name words)
            (isnt is s.is_passed_over (is_word keyword (codes "access")) refl)
            (ap (λ t. cond t (is_word name (codes "config") || is_word name (codes "monitor")) s.is_passed_over) is)
            (keeps_database types s name words)

        by : (b : Bool) → is_word keyword (codes "database") ≡ b → IfFollows s (Some keyword ∷ words) (cond b (database s words) (other_than_database types.rows s keyword words))
        by true w = named words w
        by false w = others_follow keyword words w

  pub line_follows : (s : Settings) (said : Said) (next : Settings) → after_line types.rows s said ≡ Ok next → Follows s (words_by said) next
  line_follows s said next e = subst (IfFollows s (words_by said)) e (words_follow s (words_by said))

  -- ---- as the code has them

  at_ok : {A : Type 0} (n : ℕ) (r : Result A ConfigCause) (x : A) → at_line n r ≡ Ok x → r ≡ Ok x
  at_ok n (Err c) x e = absurd (cc)
  at_ok n (Ok y) x e = let same : y ≡ x = cc in ap Ok same

  -- a rule was read as the last one
  pub rule_read : (s : Settings) (n : ℕ) (said : Said) (next : declared.Settings) (last : Option (Bor Rule)) → at_line n (after_line types.rows s said) ≡ Ok (settings_of next)
      → option_copied last ≡ slice_get next.rules.items (length next.rules.items - 1) → is_rule s.is_passed_over (words_by said) ≡ true
      → IfSome last (λ (rule : Bor Rule). access_rule_of types.rows (after_keyword (words_by said)) ≡ Ok (rule_of rule.now))
  rule_read s n said next None e at is = tt
  rule_read s n said next (Some rule) e at is =
      let found = (line_follows s said (settings_of next) (at_ok n (after_line types.rows s said) (settings_of next) e)).read is in
      found.read ∙ ap Ok (last_is next.rules.items found.before found.rule rule.now found.last (sym at))

  -- all lines are those so far and those to come
  pub record Goes (lines : List ConfigLine) (s : Settings) (notes : List Note) (left : List ConfigLine) : Type 0 where
    pub settings_left : after_lines types.rows no_settings lines ≡ after_lines types.rows s left
    pub notes_left : lines_notes types false false lines ≡ notes ++ lines_notes types s.is_passed_over (has_rules s.rules) left

  pub goes_on : (lines : List ConfigLine) (s : Settings) (notes : List Note) (line : ConfigLine) (left : List ConfigLine) (next : Settings) (more : List Note) → Goes lines s notes (line ∷ left)
      → at_line line.number (after_line types.rows s line.said) ≡ Ok next → more ≡ notes ++ line_notes types s.is_passed_over line.number (words_by line.said) → Goes lines next more left
  goes_on lines s notes line left next more goes e noted =
      let follows : Follows s (words_by line.said) next = line_follows s line.said next (at_ok line.number (after_line types.rows s line.said) next e) in
      record {
        settings_left = goes.settings_left ∙ ap (λ r. and_then r (λ now. after_lines types.rows now left)) e;
        notes_left =
            goes.notes_left
            ∙ ap (λ p. notes ++ (line_notes types s.is_passed_over line.number (words_by line.said) ++ lines_notes types p (has_rules s.rules || is_rule s.is_passed_over (words_by line.said)) left)) follows.passed
            ∙ ap (λ h. notes ++ (line_notes types s.is_passed_over line.number (words_by line.said) ++ lines_notes types next.is_passed_over h left)) (sym follows.has)
            ∙ sym (append_assoc notes (line_notes types s.is_passed_over line.number (words_by line.said)) (lines_notes types next.is_passed_over (has_rules next.rules) left))
            ∙ ap (λ all. all ++ lines_notes types next.is_passed_over (has_rules next.rules) left) (sym noted);
      }
