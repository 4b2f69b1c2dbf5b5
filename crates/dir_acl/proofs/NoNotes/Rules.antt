-- A rule without a note names known types alone, and takes neither `a` nor `z` away alone.
use Rattle.std.proofs.Common.{◌≡◌, ℕ, Bool, true, false, cond, not, List, [], ◌∷◌, Option, Some, None, Result, Ok, Err, refl, sym, ap, ◌∙◌}
use Rattle.std.specs.Prelude.{◌&&◌, codes}
use Rattle.std.specs.List.{list_all}
use Rattle.dir_names.specs.Cut.{after_first_separator}
use Rattle.dir_names.specs.Results.{and_then}
use Rattle.dir_acl.specs.declared.access.Control.{Control}
use Rattle.dir_acl.specs.declared.access.Control.TheVariants.{Stop}
use Rattle.dir_acl.specs.declared.access.Edit.{Edit}
use Rattle.dir_acl.specs.declared.access.Who.{Who}
use Rattle.dir_acl.specs.declared.fault.ConfigCause.{ConfigCause}
use Rattle.dir_acl.specs.declared.fault.ConfigCause.TheVariants.{BadDirective, Unsupported}
use Rattle.dir_acl.specs.declared.note.NoteCause.TheVariants.{HalfOfWrite}
use Rattle.dir_acl.specs.Config.AccessRules.{Place, before_to, before_what, in_what, before_who, in_who, after_access, after_control, access_rule_of, after_what, after_whos, after_word, at_end, by_control, by_or_control, first_who, is_by, next_who, rule_from, with_clause}
use Rattle.dir_conf_text.specs.Keywords.{is_word}
use Rattle.dir_acl.specs.Config.Names.{form_of}
use Rattle.dir_acl.specs.Config.Permissions.{control_of, edit_of, no_edit}
use Rattle.dir_acl.specs.Config.Whats.{with_what}
use Rattle.dir_acl.specs.Config.Whos.{who_of}
use Rattle.dir_acl.specs.Notes.{edit_notes, form_notes, note_at, rule_notes, word_notes}
use Rattle.dir_acl.specs.Notes.Halves.{takes_half}
use Rattle.dir_acl.specs.Notes.Known.{clause_known, rule_known, what_known, who_known}
use Rattle.dir_acl.specs.Notes.Supertypes.{NotedTypes}
use Rattle.dir_acl.specs.Rules.{AccessRule, Restriction}
use Rattle.dir_acl.proofs.Grammar.Sound.{first_true, second_true}
use Rattle.dir_acl.proofs.NoNotes.Lists.{all_pushed, left_empty, right_empty}
use Rattle.dir_acl.proofs.NoNotes.Whats.{whats_known}
use Rattle.dir_acl.proofs.NoNotes.Whos.{read_fine, who_fine}

module _ (types : NotedTypes) (n : ℕ) where
  -- what was read so far names known types alone
  abbrev place_known : Place → Bool
  place_known before_to = true
  place_known before_what = true
  place_known (in_what whats) = list_all (what_known types) whats
  place_known (before_who rule) = rule_known types rule
  place_known (in_who rule whos) = rule_known types rule && list_all (who_known types) whos
  place_known (after_access rule whos edit) = (rule_known types rule && list_all (who_known types) whos) && not (takes_half edit)
  place_known (after_control rule) = rule_known types rule

  abbrev place_fine : Result Place ConfigCause → Bool
  place_fine (Ok place) = place_known place
  place_fine (Err c) = true

  -- ---- clauses

  no_half : (edit : Edit) → edit_notes n (Some edit) ≡ [] → not (takes_half edit) ≡ true
  no_half edit notes = by (takes_half edit) notes
    where
      by : (b : Bool) → cond b (note_at n HalfOfWrite ∷ []) [] ≡ [] → not b ≡ true
      by true w = absurd (cc)
      by false w = refl

  clause_fine : (rule : AccessRule) (whos : List Who) (edit : Edit) (control : Control) → (rule_known types rule && list_all (who_known types) whos) ≡ true → not (takes_half edit) ≡ true → rule_known types (with_clause rule whos edit control) ≡ true
  clause_fine rule whos edit control so whole_w =
      let whole : rule_known types rule ≡ true = first_true (rule_known types rule) (list_all (who_known types) whos) so in
      let what : list_all (what_known types) rule.what ≡ true = first_true (list_all (what_known types) rule.what) (list_all (clause_known types) rule.clauses) whole in
      let clauses : list_all (clause_known types) rule.clauses ≡ true = second_true (list_all (what_known types) rule.what) (list_all (clause_known types) rule.clauses) whole in
      let clause : clause_known types (record { who = whos; edit = edit; control = control }) ≡ true = (λ i. second_true (rule_known types rule) (list_all (who_known types) whos) so i && whole_w i) in
      (λ i. what i && all_pushed (clause_known types) rule.clauses (record { who = whos; edit = edit; control = control }) clauses clause i)

  control_fine : (rule : AccessRule) (whos : List Who) (edit : Edit) (word : List ℕ) → (rule_known types rule && list_all (who_known types) whos) ≡ true → not (takes_half edit) ≡ true → place_fine (by_or_control rule whos edit word) ≡ true
  control_fine rule whos edit word so whole_w = by (is_by word) (control_of word)
    where
      by : (b : Bool) (control : Option Control) → place_fine (cond b (Ok (before_who (with_clause rule whos edit Stop))) (by_control rule whos edit control)) ≡ true
      by true control = clause_fine rule whos edit Stop so whole_w
      by false None = refl
      by false (Some control) = clause_fine rule whos edit control so whole_w

  -- ---- words

  what_step : (whats : List Restriction) (word : List ℕ) → list_all (what_known types) whats ≡ true → word_notes types n (Some word) ≡ [] → place_fine (after_what types.rows whats word) ≡ true
  what_step whats word so notes = by (with_what types.rows whats word) refl
    where
      by : (r : Result (List Restriction) ConfigCause) → with_what types.rows whats word ≡ r → place_fine (and_then r (λ more. Ok (in_what more))) ≡ true
      by (Err c) w = refl
      by (Ok more) w = whats_known types n whats more word so notes w

  first_step : (rule : AccessRule) (r : Result (Option Who) ConfigCause) → rule_known types rule ≡ true → who_fine types n r ≡ true → place_fine (and_then r (λ who. first_who rule who)) ≡ true
  first_step rule (Err c) so known = refl
  first_step rule (Ok None) so known = refl
  first_step rule (Ok (Some who)) so known = λ i. so i && (known i && true)

  next_step : (rule : AccessRule) (whos : List Who) (word : List ℕ) (r : Result (Option Who) ConfigCause) → (rule_known types rule && list_all (who_known types) whos) ≡ true → who_fine types n r ≡ true
      → edit_notes n (edit_of word) ≡ [] → place_fine (and_then r (λ who. next_who rule whos word who)) ≡ true
  next_step rule whos word (Err c) so known notes = refl
  next_step rule whos word (Ok None) so known notes = by (edit_of word) notes
    where
      by : (edit : Option Edit) → edit_notes n edit ≡ [] → place_fine (after_whos rule whos edit word) ≡ true
      by None notes = control_fine rule whos no_edit word so refl
      by (Some edit) notes = λ i. so i && no_half edit notes i
  next_step rule whos word (Ok (Some who)) so known notes =
      (λ i. first_true (rule_known types rule) (list_all (who_known types) whos) so i
      && all_pushed (who_known types) whos who (second_true (rule_known types rule) (list_all (who_known types) whos) so) known i)

  word_step : (place : Place) (word : List ℕ) → place_known place ≡ true → word_notes types n (Some word) ≡ [] → place_fine (after_word types.rows place word) ≡ true
  word_step before_to word so notes = by (is_word word (codes "to"))
    where
      by : (b : Bool) → place_fine (cond b (Ok before_what) (Err BadDirective)) ≡ true
      by true = refl
      by false = refl
  word_step before_what word so notes = what_step [] word refl notes
  word_step (in_what whats) word so notes = by (is_by word)
    where
      by : (b : Bool) → place_fine (cond b (Ok (before_who (record { what = whats; clauses = [] }))) (after_what types.rows whats word)) ≡ true
      by true = λ i. so i && true
      by false = what_step whats word so notes
  word_step (before_who rule) word so notes = first_step rule (who_of types.rows word) so (read_fine types n word notes)
  word_step (in_who rule whos) word so notes =
      next_step rule whos word (who_of types.rows word) so (read_fine types n word notes)
      (left_empty (edit_notes n (edit_of word)) (form_notes types n (form_of word) (after_first_separator 61 word)) notes)
  word_step (after_access rule whos edit) word so notes =
      let known : (rule_known types rule && list_all (who_known types) whos) ≡ true = first_true (rule_known types rule && list_all (who_known types) whos) (not (takes_half edit)) so in
      control_fine rule whos edit word known (second_true (rule_known types rule && list_all (who_known types) whos) (not (takes_half edit)) so)
  word_step (after_control rule) word so notes = by (is_by word)
    where
      by : (b : Bool) → place_fine (cond b (Ok (before_who rule)) (Err Unsupported)) ≡ true
      by true = so
      by false = refl

  -- ---- the whole rule

  abbrev rule_fine : Result AccessRule ConfigCause → Bool
  rule_fine (Ok rule) = rule_known types rule
  rule_fine (Err c) = true

  end_fine : (place : Place) → place_known place ≡ true → rule_fine (at_end place) ≡ true
  end_fine before_to so = refl
  end_fine before_what so = refl
  end_fine (in_what whats) so = refl
  end_fine (before_who rule) so = refl
  end_fine (in_who rule whos) so = clause_fine rule whos no_edit Stop so refl
  end_fine (after_access rule whos edit) so =
      let known : (rule_known types rule && list_all (who_known types) whos) ≡ true = first_true (rule_known types rule && list_all (who_known types) whos) (not (takes_half edit)) so in
      clause_fine rule whos edit Stop known (second_true (rule_known types rule && list_all (who_known types) whos) (not (takes_half edit)) so)
  end_fine (after_control rule) so = so

  from_fine : (place : Place) (words : List (Option (List ℕ))) → place_known place ≡ true → rule_notes types n words ≡ [] → rule_fine (rule_from types.rows place words) ≡ true
  from_fine place [] so notes = end_fine place so
  from_fine place (None ∷ words) so notes = refl
  from_fine place (Some word ∷ words) so notes =
      by (λ next known. from_fine next words known (right_empty (word_notes types n (Some word)) (rule_notes types n words) notes))
      (after_word types.rows place word) (word_step place word so (left_empty (word_notes types n (Some word)) (rule_notes types n words) notes))
    where
      by : ((next : Place) → place_known next ≡ true → rule_fine (rule_from types.rows next words) ≡ true) → (r : Result Place ConfigCause) → place_fine r ≡ true → rule_fine (and_then r (λ next. rule_from types.rows next words)) ≡ true
      by rest (Err c) known = refl
      by rest (Ok next) known = rest next known

  pub rule_is_known : (words : List (Option (List ℕ))) (rule : AccessRule) → access_rule_of types.rows words ≡ Ok rule → rule_notes types n words ≡ [] → rule_known types rule ≡ true
  rule_is_known words rule e notes = sym (ap rule_fine e) ∙ from_fine before_to words refl notes
