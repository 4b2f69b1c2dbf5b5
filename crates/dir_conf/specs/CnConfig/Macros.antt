-- Object identifiers that have names (slapd-config(5), `olcObjectIdentifier`), in definitions of attribute types.
use Rattle.std.specs.Prelude.{ℕ, cond, ◌==◌, List, [], ◌∷◌, ◌++◌, map, codes, drop, Option, None, Some, Result, Ok, Err}
use Rattle.std.specs.List.{before_first, position_or_len}
use Rattle.std.specs.Str.{bytes_eq}
use Rattle.dir_names.specs.Ascii.{space, left_parenthesis}
use Rattle.dir_names.specs.Cut.{after_first_separator}
use Rattle.dir_names.specs.Results.{and_then}
use Rattle.dir_conf.specs.declared.cn_config.macros.Macro.{Macro}
use Rattle.dir_conf.specs.declared.fault.ConfFault.{ConfFault}
use Rattle.dir_conf.specs.declared.fault.ConfFault.TheVariants.{BadArguments}
use Rattle.dir_conf_text.specs.Lines.{is_space}
use Rattle.dir_conf.specs.CnConfig.Arguments.{arguments_of}
use Rattle.dir_conf.specs.CnConfig.Values.{Numbered}

-- the object identifier of the first that has this name, to the letter
abbrev pub oid_named : List Macro → List ℕ → Option (List ℕ)
oid_named [] name = None
oid_named (first ∷ more) name = cond (bytes_eq first.name name) (Some first.oid) (oid_named more name)

abbrev pub with_rest : List ℕ → Option (List ℕ) → List ℕ
with_rest oid None = oid
with_rest oid (Some rest) = oid ++ 46 ∷ rest

abbrev pub if_known : List ℕ → Option (List ℕ) → List ℕ
if_known word None = word
if_known word (Some oid) = with_rest oid (after_first_separator 58 word)

-- a word: `NAME` is its object identifier, and `NAME:REST` that with `.REST`; any other word is as it stands
abbrev pub expanded : List Macro → List ℕ → List ℕ
expanded macros word = if_known word (oid_named macros (before_first (λ b. b == 58) word))

-- ---- the macros of a value

abbrev pub macro_by : List Macro → ℕ → Option (List (List ℕ)) → Result (List Macro) ConfFault
macro_by macros line (Some (name ∷ word ∷ [])) = Ok (macros ++ record { name = name; oid = expanded macros word } ∷ [])
macro_by macros line _ = Err (BadArguments line)

-- `NAME WORD`: one more, whose word may name those before
abbrev pub with_macro : List Macro → Numbered → Result (List Macro) ConfFault
with_macro macros value = macro_by macros value.0 (arguments_of value.1)

abbrev pub with_macros : List Macro → List Numbered → Result (List Macro) ConfFault
with_macros macros [] = Ok macros
with_macros macros (value ∷ more) = and_then (with_macro macros value) (λ now. with_macros now more)

-- ---- definitions

-- a text without the white space that it begins with
abbrev pub without_spaces : List ℕ → List ℕ
without_spaces [] = []
without_spaces (b ∷ bs) = cond (is_space b) (without_spaces bs) (b ∷ bs)

abbrev pub with_first_word : List Macro → List ℕ → List ℕ
with_first_word macros text = codes "( " ++ expanded macros (before_first is_space text) ++ drop (position_or_len is_space text) text

-- the first word after the parenthesis that a definition begins with is its number, which may be written as a macro
abbrev pub by_first : List Macro → List ℕ → List ℕ → List ℕ
by_first macros text [] = text
by_first macros text (b ∷ bs) = cond (b == left_parenthesis) (with_first_word macros (without_spaces bs)) text

-- white space is written as spaces
abbrev pub plain_byte : ℕ → ℕ
plain_byte b = cond (is_space b) space b

abbrev pub definition : List Macro → List ℕ → List ℕ
definition macros text = map plain_byte (by_first macros text (without_spaces text))
