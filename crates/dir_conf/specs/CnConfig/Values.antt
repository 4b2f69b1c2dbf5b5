-- The values of an attribute of cn=config in their order (slapd-config(5)): each begins with its place in braces, or none does.
use Rattle.std.specs.Prelude.{ℕ, ◌+◌, Bool, false, cond, ◌==◌, List, [], ◌∷◌, ◌++◌, length, take, drop, Option, None, Some, ok_or, Result, Ok}
use Rattle.std.specs.Fmt.{decimal}
use Rattle.std.specs.Str.{bytes_eq}
use Rattle.dir_names.specs.Results.{and_then}
use Rattle.dir_conf.specs.declared.cn_config.values.Value as declared
use Rattle.dir_conf.specs.declared.fault.ConfFault.{ConfFault}
use Rattle.dir_conf.specs.declared.fault.ConfFault.TheVariants.{BadOrder}

-- a value, after the number of its line
abbrev pub Numbered : Type 0
Numbered = ℕ × List ℕ

abbrev pub numbered : declared.Value → Numbered
numbered value = (value.line, value.text)

-- what comes after a text, where another begins with it
abbrev pub after_prefix : List ℕ → List ℕ → Option (List ℕ)
after_prefix prefix text = cond (bytes_eq (take (length prefix) text) prefix) (Some (drop (length prefix) text)) None

-- `{0}`, `{1}`, ..
abbrev pub place_words : ℕ → List ℕ
place_words place = 123 ∷ decimal place ++ 125 ∷ []

-- a value without this place
abbrev pub value_at : ℕ → Numbered → Result Numbered ConfFault
value_at place value = and_then (ok_or (after_prefix (place_words place) value.1) (BadOrder value.0)) (λ text. Ok (value.0, text))

-- the values from this place on, without their places
abbrev pub in_turn : ℕ → List Numbered → Result (List Numbered) ConfFault
in_turn place [] = Ok []
in_turn place (value ∷ more) = and_then (value_at place value) (λ first. and_then (in_turn (place + 1) more) (λ rest. Ok (first ∷ rest)))

abbrev pub begins_with_brace : List ℕ → Bool
begins_with_brace [] = false
begins_with_brace (b ∷ bs) = b == 123

-- the values as they stand, or where the first begins with a brace, all without their places, from 0 on; else the first that is out of its place
abbrev pub without_places : List Numbered → Result (List Numbered) ConfFault
without_places [] = Ok []
without_places (value ∷ more) = cond (begins_with_brace value.1) (in_turn 0 (value ∷ more)) (Ok (value ∷ more))
