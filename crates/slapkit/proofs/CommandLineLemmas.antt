-- What the arguments of a command line make of a command.
use Rattle.std.proofs.Common.{◌&&◌, ◌++◌, ◌∙◌, ◌≡◌, ◌∷◌, Bool, List, [], ℕ, None, Option, Some, ap, ap₂, false, is_some, map, option_map, refl, sym, true}
use Rattle.std.proofs.Common.{arith, length-append, not, rules}
use Rattle.std.specs.Borrow.{Bor}
use Rattle.std.specs.Box.{box_value}
use Rattle.std.specs.Prelude.{IsSomeAnd}
use Rattle.clap.specs.declared.builder.action.ArgAction.{ArgAction}
use Rattle.clap.specs.declared.builder.range.ValueRange.{ValueRange}
use Rattle.clap.specs.declared.builder.value_parser.ValueParser.{ValueParser}
use Rattle.clap.specs.declared.builder.texts.Texts.TheVariants.{One}
use Rattle.clap.specs.Adds.{AddsConflicts, AddsRequiredUnless, AddsRequirements}
use Rattle.clap.specs.Built.{AddsArg, AddsSubcommand}
use Rattle.clap.specs.Simple.{App, HasMatchesOf, Shape, app_of, is_simple, shape_of, subcommand_of, subcommand_rows, with_rule, with_subcommand}
use Rattle.clap.specs.Matches.{found_of, subcommand_name_of}
use Rattle.clap.specs.Walk.{Row, Rule, Text, is_empty, is_free_arg, rows_of, rule_of}
use Rattle.clap.specs.declared.builder.arg.Arg.{Arg}
use Rattle.clap.specs.declared.builder.arg.ArgPredicate.{ArgPredicate}
use Rattle.clap.specs.declared.builder.command.Command.{Command}
use Rattle.clap.specs.declared.builder.command.Command.TheViews.{out-Command}
use Rattle.clap.specs.declared.builder.command.Command.TheOpen.{Command-F}
use Rattle.clap.specs.declared.parser.matches.ArgMatches.{ArgMatches}
use Rattle.clap.specs.declared.parser.matches.ArgMatches.TheViews.{out-ArgMatches, out-SubCommand}
use Rattle.slapkit.specs.CommandLine.{Names, bound, slapkit}

-- the command is this one, and no argument of it is global
pub record IsSo (c : Command) (wanted : App) : Type 0 where
  pub is : app_of c ≡ wanted
  pub local : (out-Command c).has_globals ≡ false

abbrev pub globals : Command-F Command → Bool
globals fields = fields.has_globals

-- the argument has these rules, and is one of its own tool alone
pub record HasRule (a : Arg) (wanted : Rule) : Type 0 where
  pub is : rule_of a ≡ wanted
  pub local : a.global ≡ false

-- so the command is with one argument more
pub with_arg : (old new : Command) (a : Arg) (wanted : App) (rule : Rule) → AddsArg old a new → IsSo old wanted → HasRule a rule → IsSo new (with_rule wanted rule)
with_arg old new a wanted rule adds so has = record {
  is = adds.shape has.local ∙ ap₂ with_rule so.is has.is;
  local = adds.globals ∙ rw (so.local, has.local) refl;
}

-- and with one subcommand more
pub with_tool : (old sub new : Command) (wanted : App) (tool : Shape) → AddsSubcommand old sub new → IsSo old wanted → shape_of sub ≡ tool → (out-Command sub).has_globals ≡ false
    → IsSo new (with_subcommand wanted tool)
with_tool old sub new wanted tool adds so is local = record {
  is = adds.shape local ∙ ap₂ with_subcommand so.is is;
  local = adds.globals ∙ rw (so.local, local) refl;
}

never_empty : {X : Type 0} (xs : List X) (x : X) → is_empty (xs ++ x ∷ []) ≡ false
never_empty xs x = first_of (grind (arith, length-append), search (rules, length-append))

false_last : (b c : Bool) → c ≡ false → (b && c) ≡ false
false_last true c is = is
false_last false c is = refl

false_first : (b c : Bool) → b ≡ false → (b && c) ≡ false
false_first b c is = ap (λ x. x && c) is

-- an argument that must be given unless another is
unless_bound : (a r : Arg) (id : Bor (List ℕ)) → AddsRequiredUnless a r (id ∷ []) → rule_of r ≡ bound (rule_of a)
unless_bound a r id adds =
    let none : is_empty r.r_unless.items ≡ false = ap is_empty adds.1 ∙ never_empty a.r_unless.items id in
    let free : is_free_arg r ≡ false = false_last (not r.exclusive) _ (false_last (is_empty r.conflicts.items) _ (false_last (is_empty r.needs.items) _
    (false_last (is_empty r.r_ifs.items) _ (false_last (is_empty r.r_ifs_all.items) _ (false_first (is_empty r.r_unless.items) (is_empty r.r_unless_all.items) none))))) in
    ap rule_of adds.0 ∙ ap (λ b. record (rule_of a) { is_free = b }) (sym (ap is_free_arg adds.0) ∙ free)

-- that may not be given with another
pub conflict_bound : (a r : Arg) (id : Bor (List ℕ)) → AddsConflicts a r (id ∷ []) → rule_of r ≡ bound (rule_of a)
conflict_bound a r id adds =
    let none : is_empty r.conflicts.items ≡ false = ap is_empty adds.1 ∙ never_empty a.conflicts.items id in
    let free : is_free_arg r ≡ false = false_last (not r.exclusive) _ (false_first (is_empty r.conflicts.items)
    (is_empty r.needs.items && (is_empty r.r_ifs.items && (is_empty r.r_ifs_all.items && (is_empty r.r_unless.items && is_empty r.r_unless_all.items)))) none) in
    ap rule_of adds.0 ∙ ap (λ b. record (rule_of a) { is_free = b }) (sym (ap is_free_arg adds.0) ∙ free)

-- or only with another
requirement_bound : (a r : Arg) (x : ArgPredicate × Bor (List ℕ)) → AddsRequirements a r (x ∷ []) → rule_of r ≡ bound (rule_of a)
requirement_bound a r x adds =
    let none : is_empty r.needs.items ≡ false = ap is_empty adds.1 ∙ never_empty a.needs.items x in
    let free : is_free_arg r ≡ false = false_last (not r.exclusive) _ (false_last (is_empty r.conflicts.items) _ (false_first (is_empty r.needs.items)
    (is_empty r.r_ifs.items && (is_empty r.r_ifs_all.items && (is_empty r.r_unless.items && is_empty r.r_unless_all.items))) none)) in
    ap rule_of adds.0 ∙ ap (λ b. record (rule_of a) { is_free = b }) (sym (ap is_free_arg adds.0) ∙ free)

-- ---- one argument

range_is : (o : Option ValueRange) (x : ValueRange) → IsSomeAnd o (λ r. r ≡ x) → o ≡ Some x
range_is None x is = absurd is
range_is (Some r) x is = ap (λ r. Some r) is

-- what a setting changes of an argument it changes of its rules
changed : (a b after : Arg) (on : Rule → Rule) (rule : Rule) → HasRule a rule → b ≡ after → rule_of after ≡ on (rule_of a) → after.global ≡ a.global → HasRule b (on rule)
changed a b after on rule has is on_rule same = record {
  is = ap rule_of is ∙ (on_rule ∙ ap on has.is);
  local = ap (λ (x : Arg). x.global) is ∙ (same ∙ has.local);
}

pub given_short : (a b : Arg) (x : ℕ) (rule : Rule) → HasRule a rule → b ≡ record a { short = Some x } → HasRule b (record rule { short = Some x })
given_short a b x rule has is = changed a b (record a { short = Some x }) (λ r. record r { short = Some x }) rule has is refl refl

pub given_long : (a b : Arg) (x : Bor (List ℕ)) (rule : Rule) → HasRule a rule → b ≡ record a { long = Some x } → HasRule b (record rule { long = Some x.now })
given_long a b x rule has is = changed a b (record a { long = Some x }) (λ r. record r { long = Some x.now }) rule has is refl refl

pub given_required : (a b : Arg) (rule : Rule) → HasRule a rule → b ≡ record a { required = true } → HasRule b (record rule { required = true })
given_required a b rule has is = changed a b (record a { required = true }) (λ r. record r { required = true }) rule has is refl refl

pub given_action : (a b : Arg) (x : ArgAction) (rule : Rule) → HasRule a rule → b ≡ record a { action = Some x } → HasRule b (record rule { action = Some x })
given_action a b x rule has is = changed a b (record a { action = Some x }) (λ r. record r { action = Some x }) rule has is refl refl

pub given_help : (a b : Arg) (x : Bor (List ℕ)) (rule : Rule) → HasRule a rule → b ≡ record a { help = Some x } → HasRule b rule
given_help a b x rule has is = changed a b (record a { help = Some x }) (λ r. r) rule has is refl refl

pub given_name : (a b : Arg) (x : Bor (List ℕ)) (rule : Rule) → HasRule a rule → b ≡ record a { val_names = One x } → HasRule b (record rule { value_names = 1 })
given_name a b x rule has is = changed a b (record a { val_names = One x }) (λ r. record r { value_names = 1 }) rule has is refl refl

pub given_parser : (a b : Arg) (x : ValueParser) (rule : Rule) → HasRule a rule → b ≡ record a { value_parser = b.value_parser } → b.value_parser ≡ Some x → HasRule b (record rule { parser = Some x })
given_parser a b x rule has is parser =
    changed a b (record a { value_parser = Some x }) (λ r. record r { parser = Some x }) rule has (is ∙ ap (λ p. record a { value_parser = p }) parser) refl refl

pub given_range : (a b : Arg) (x : ValueRange) (rule : Rule) → HasRule a rule → b ≡ record a { num_vals = b.num_vals } → IsSomeAnd b.num_vals (λ r. r ≡ x) → HasRule b (record rule { range = Some x })
given_range a b x rule has is range =
    changed a b (record a { num_vals = Some x }) (λ r. record r { range = Some x }) rule has (is ∙ ap (λ p. record a { num_vals = p }) (range_is b.num_vals x range)) refl refl

-- it must be given unless another is, or not with another, or only with another
pub unless : (a b : Arg) (id : Bor (List ℕ)) (rule : Rule) → HasRule a rule → AddsRequiredUnless a b (id ∷ []) → HasRule b (bound rule)
unless a b id rule has adds = record { is = unless_bound a b id adds ∙ ap bound has.is; local = ap (λ (x : Arg). x.global) adds.0 ∙ has.local }

pub never_with : (a b : Arg) (id : Bor (List ℕ)) (rule : Rule) → HasRule a rule → AddsConflicts a b (id ∷ []) → HasRule b (bound rule)
never_with a b id rule has adds = record { is = conflict_bound a b id adds ∙ ap bound has.is; local = ap (λ (x : Arg). x.global) adds.0 ∙ has.local }

pub only_with : (a b : Arg) (x : ArgPredicate × Bor (List ℕ)) (rule : Rule) → HasRule a rule → AddsRequirements a b (x ∷ []) → HasRule b (bound rule)
only_with a b x rule has adds = record { is = requirement_bound a b x adds ∙ ap bound has.is; local = ap (λ (x : Arg). x.global) adds.0 ∙ has.local }

-- ---- the subcommand that a parse met

both_parts : {X A B : Type 0} (f : X → A) (g : X → B) (o : Option X) (a : A) (b : B) → option_map f o ≡ Some a → option_map (λ (p : A × B). p.1) (option_map {U = A × B} (λ x. (f x, g x)) o) ≡ Some b
    → option_map {U = A × B} (λ x. (f x, g x)) o ≡ Some (a, b)
both_parts f g None a b first second = cc
both_parts f g (Some x) a b first second = cc

-- a parse of these words by the program's command line met this tool, and found this in its options
pub names_tool : (app : App) (words : List Text) (m inner : ArgMatches) (tool : Text) → app ≡ slapkit → HasMatchesOf app words m → subcommand_name_of m ≡ Some tool
    → option_map (λ (p : Text × List Row). p.1) (subcommand_rows (out-ArgMatches m).subcommand) ≡ Some (rows_of (found_of inner)) → Names words tool (found_of inner)
names_tool app words m inner tool is has name rows =
    sym (ap (λ a. subcommand_of a words) is) ∙ (sym (has (ap is_simple is)).1 ∙ both_parts (λ b. (out-SubCommand (box_value b)).name.now) (λ b. rows_of (found_of (out-SubCommand (box_value b)).matches)) (out-ArgMatches m).subcommand _ _ name rows)

-- ---- what the getters answer

pub text_there : {X Y : Type 0} (f : X → Y) (o : Option X) (v : Option Y) → option_map f o ≡ v → is_some o ≡ true → is_some v ≡ true
text_there f None v is there = cc
text_there f (Some x) v is there = rw (← is) refl

pub no_text : {X Y : Type 0} (f : X → Y) (o : Option X) (v : Option Y) → option_map f o ≡ v → is_some o ≡ false → v ≡ None
no_text f None v is missing = sym is
no_text f (Some x) v is missing = cc

-- ---- what excludes what

four_more : {X Y : Type 0} (f : X → Y) (xs : List X) (i j k l : X) → map f (xs ++ i ∷ [] ++ j ∷ [] ++ k ∷ [] ++ l ∷ []) ≡ map f xs ++ (f i ∷ f j ∷ f k ∷ f l ∷ [])
four_more f [] i j k l = refl
four_more f (x ∷ xs) i j k l = ap (λ ys. f x ∷ ys) (four_more f xs i j k l)

-- an argument that may not be given with four others, which were named in turn
pub excludes_four : (a b c d r : Arg) (i j k l : Bor (List ℕ)) → AddsConflicts a b (i ∷ []) → AddsConflicts b c (j ∷ []) → AddsConflicts c d (k ∷ []) → AddsConflicts d r (l ∷ [])
    → map (λ x. x.now) r.conflicts.items ≡ map (λ x. x.now) a.conflicts.items ++ (i.now ∷ j.now ∷ k.now ∷ l.now ∷ [])
excludes_four a b c d r i j k l first second third fourth =
    let all : r.conflicts.items ≡ a.conflicts.items ++ i ∷ [] ++ j ∷ [] ++ k ∷ [] ++ l ∷ [] =
    fourth.1 ∙ ap (λ xs. xs ++ l ∷ []) (third.1 ∙ ap (λ xs. xs ++ k ∷ []) (second.1 ∙ ap (λ xs. xs ++ j ∷ []) first.1)) in
    ap (map (λ x. x.now)) all ∙ four_more (λ x. x.now) a.conflicts.items i j k l
