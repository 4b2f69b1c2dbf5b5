-- The records of cn=config, as lines of LDIF (RFC 2849).
use Rattle.std.specs.Prelude.{ℕ, cond, List, [], ◌∷◌, ◌++◌, Result, Ok, Err}
use Rattle.std.specs.List.{flat_map}
use Rattle.dir_names.specs.Results.{and_then}
use Rattle.dir_ldif.specs.declared.faults.RecordFault.{RecordFault}
use Rattle.dir_ldif.specs.AttrVal.{attrval_of}
use Rattle.dir_ldif.specs.LogicalLines.{Line}
use Rattle.dir_ldif.specs.RecordGrammar.{is_keyword}
use Rattle.dir_conf.specs.declared.cn_config.records.Attribute.{Attribute}
use Rattle.dir_conf.specs.declared.fault.ConfFault.{ConfFault}
use Rattle.dir_conf.specs.declared.fault.ConfFault.TheVariants.{BadLine}
use Rattle.dir_conf.specs.CnConfig.Values.{Numbered, without_places}

-- what a call gives for each element, one after the other, or the first fault
abbrev pub gather : {A B : Type 0} → (A → Result (List B) ConfFault) → List A → Result (List B) ConfFault
gather f [] = Ok []
gather f (x ∷ xs) = and_then (f x) (λ some. and_then (gather f xs) (λ rest. Ok (some ++ rest)))

abbrev pub with_line : ℕ → Result (List ℕ × List ℕ) RecordFault → Result (List Attribute) ConfFault
with_line line (Ok parts) = Ok (record { line = line; name = parts.0; value = parts.1 } ∷ [])
with_line line (Err why) = Err (BadLine line why)

abbrev pub attribute_of : Line → Result (List Attribute) ConfFault
attribute_of line = with_line line.0 (attrval_of line.1)

-- the attributes of a record's lines
abbrev pub record_of : List Line → Result (List Attribute) ConfFault
record_of lines = gather attribute_of lines

abbrev pub numbered_value : Attribute → Numbered
numbered_value attribute = (attribute.line, attribute.value)

abbrev pub if_named : List ℕ → Attribute → List Numbered
if_named name attribute = cond (is_keyword attribute.name name) (numbered_value attribute ∷ []) []

-- the values of the attribute of this name, in any ASCII case
abbrev pub named : List ℕ → List Attribute → List Numbered
named name attributes = flat_map (if_named name) attributes

abbrev pub values_of : List ℕ → List Attribute → Result (List Numbered) ConfFault
values_of name attributes = without_places (named name attributes)
