-- The database of a suffix among the records of cn=config, and the frontend (slapd-config(5), `olcDatabase`, `olcSuffix`).
use Rattle.std.specs.Prelude.{ℕ, Bool, cond, ◌&&◌, List, [], ◌∷◌, codes, unwrap_or, Option, None, Some, is_some, ok_or, Result, Ok, Err}
use Rattle.std.specs.List.{list_any}
use Rattle.std.specs.Str.{bytes_eq}
use Rattle.dir_names.specs.Below.{is_at_or_below}
use Rattle.dir_names.specs.Cut.{after_first_separator}
use Rattle.dir_names.specs.Keys.{DnKeys}
use Rattle.dir_names.specs.NameKeys.{name_value_key}
use Rattle.dir_names.specs.Results.{and_then}
use Rattle.dir_names.specs.declared.schema.TypeRow.{TypeRow}
use Rattle.dir_conf.specs.declared.cn_config.databases.Suffix.{Suffix}
use Rattle.dir_conf.specs.declared.cn_config.records.Attribute.{Attribute}
use Rattle.dir_conf.specs.declared.fault.ConfFault.{ConfFault}
use Rattle.dir_conf.specs.declared.fault.ConfFault.TheVariants.{BadName, NoDatabase, SecondDatabase, Subordinate}
use Rattle.dir_conf.specs.CnConfig.Records.{gather, named, values_of}
use Rattle.dir_conf.specs.CnConfig.Values.{Numbered, begins_with_brace}

-- ---- suffixes

abbrev pub suffix_by : ℕ → Option DnKeys → Result (List Suffix) ConfFault
suffix_by line None = Err (BadName line)
suffix_by line (Some key) = Ok (record { line = line; key = key } ∷ [])

abbrev pub suffix_in : List TypeRow → Numbered → Result (List Suffix) ConfFault
suffix_in rows value = suffix_by value.0 (name_value_key rows value.1)

-- the suffixes of a database
abbrev pub suffixes_of : List TypeRow → List Attribute → Result (List Suffix) ConfFault
suffixes_of rows entry = and_then (values_of (codes "olcSuffix") entry) (gather (suffix_in rows))

abbrev pub is_at : DnKeys → Suffix → Bool
is_at wanted suffix = is_at_or_below suffix.key wanted && is_at_or_below wanted suffix.key

abbrev pub is_within : DnKeys → Suffix → Bool
is_within wanted suffix = is_at_or_below suffix.key wanted

-- the line of the first that passes a test
abbrev pub line_of_first : (Suffix → Bool) → List Suffix → Option ℕ
line_of_first test [] = None
line_of_first test (suffix ∷ more) = cond (test suffix) (Some suffix.line) (line_of_first test more)

-- ---- the database of a suffix

-- a record is the database of the suffix, by the line of its own suffix that is this one; else it has none below it
abbrev pub by_suffixes : {A : Type 0} → Option A → A → Option ℕ → Option ℕ → Result (Option A) ConfFault
by_suffixes found entry (Some line) within = cond (is_some found) (Err (SecondDatabase line)) (Ok (Some entry))
by_suffixes found entry None (Some line) = Err (Subordinate line)
by_suffixes found entry None None = Ok found

abbrev pub after_record : List TypeRow → DnKeys → Option (List Attribute) → List Attribute → Result (Option (List Attribute)) ConfFault
after_record rows wanted found entry =
    and_then (suffixes_of rows entry) (λ suffixes. by_suffixes found entry (line_of_first (is_at wanted) suffixes) (line_of_first (is_within wanted) suffixes))

abbrev pub after_records : List TypeRow → DnKeys → Option (List Attribute) → List (List Attribute) → Result (Option (List Attribute)) ConfFault
after_records rows wanted found [] = Ok found
after_records rows wanted found (entry ∷ more) = and_then (after_record rows wanted found entry) (λ now. after_records rows wanted now more)

-- the one record whose suffix this is, where no other has a suffix below it; or the first fault
abbrev pub database_of : List TypeRow → DnKeys → List (List Attribute) → Result (List Attribute) ConfFault
database_of rows wanted records = and_then (after_records rows wanted None records) (λ found. ok_or found NoDatabase)

-- ---- the frontend

-- a text without the number in braces that it begins with
abbrev pub without_number : List ℕ → List ℕ
without_number text = cond (begins_with_brace text) (unwrap_or (after_first_separator 125 text) text) text

-- `{-1}frontend`
abbrev pub is_frontend_name : Numbered → Bool
is_frontend_name value = bytes_eq (without_number value.1) (codes "frontend")

abbrev pub is_frontend : List Attribute → Bool
is_frontend entry = list_any is_frontend_name (named (codes "olcDatabase") entry)
