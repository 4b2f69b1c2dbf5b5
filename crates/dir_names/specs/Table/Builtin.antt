-- The attribute types that are known from the start (RFC 4519, section 2; RFC 4524, section 2; RFC 2798, section 2; RFC 2307, section 3; for `objectClass` RFC 4512, section 3.3).
use Rattle.std.specs.Prelude.{ℕ, Bool, true, false, List, [], ◌∷◌, codes}
use Rattle.std.specs.Str.{str_to_ascii_lowercase}
use Rattle.dir_names.specs.declared.schema.Rule.{Rule}
use Rattle.dir_names.specs.declared.schema.Rule.TheVariants.{Octet, CaseIgnore, Ia5CaseIgnore, Ia5CaseExact, Telephone, Integer, Name, ObjectId}
use Rattle.dir_names.specs.declared.schema.TypeRow.{TypeRow}

-- a type by its primary name, its number and, if it has one, its alias
abbrev pub row : List ℕ → List (List ℕ) → Rule → Bool → TypeRow
row name others rule single = record { key = str_to_ascii_lowercase name; names = name ∷ others; rule = rule; single = single }

unfoldable pub builtin_rows : List TypeRow
builtin_rows =
    (row (codes "cn") (codes "2.5.4.3" ∷ codes "commonName" ∷ []) CaseIgnore false) ∷
    (row (codes "sn") (codes "2.5.4.4" ∷ codes "surname" ∷ []) CaseIgnore false) ∷
    (row (codes "c") (codes "2.5.4.6" ∷ codes "countryName" ∷ []) CaseIgnore true) ∷
    (row (codes "l") (codes "2.5.4.7" ∷ codes "localityName" ∷ []) CaseIgnore false) ∷
    (row (codes "st") (codes "2.5.4.8" ∷ []) CaseIgnore false) ∷
    (row (codes "street") (codes "2.5.4.9" ∷ []) CaseIgnore false) ∷
    (row (codes "o") (codes "2.5.4.10" ∷ codes "organizationName" ∷ []) CaseIgnore false) ∷
    (row (codes "ou") (codes "2.5.4.11" ∷ codes "organizationalUnitName" ∷ []) CaseIgnore false) ∷
    (row (codes "title") (codes "2.5.4.12" ∷ []) CaseIgnore false) ∷
    (row (codes "description") (codes "2.5.4.13" ∷ []) CaseIgnore false) ∷
    (row (codes "givenName") (codes "2.5.4.42" ∷ []) CaseIgnore false) ∷
    (row (codes "uid") (codes "0.9.2342.19200300.100.1.1" ∷ codes "userid" ∷ []) CaseIgnore false) ∷
    (row (codes "displayName") (codes "2.16.840.1.113730.3.1.241" ∷ []) CaseIgnore true) ∷
    (row (codes "employeeNumber") (codes "2.16.840.1.113730.3.1.3" ∷ []) CaseIgnore true) ∷
    (row (codes "mail") (codes "0.9.2342.19200300.100.1.3" ∷ []) Ia5CaseIgnore false) ∷
    (row (codes "dc") (codes "0.9.2342.19200300.100.1.25" ∷ codes "domainComponent" ∷ []) Ia5CaseIgnore true) ∷
    (row (codes "telephoneNumber") (codes "2.5.4.20" ∷ []) Telephone false) ∷
    (row (codes "member") (codes "2.5.4.31" ∷ []) Name false) ∷
    (row (codes "owner") (codes "2.5.4.32" ∷ []) Name false) ∷
    (row (codes "seeAlso") (codes "2.5.4.34" ∷ []) Name false) ∷
    (row (codes "manager") (codes "0.9.2342.19200300.100.1.10" ∷ []) Name false) ∷
    (row (codes "userPassword") (codes "2.5.4.35" ∷ []) Octet false) ∷
    (row (codes "uidNumber") (codes "1.3.6.1.1.1.1.0" ∷ []) Integer true) ∷
    (row (codes "gidNumber") (codes "1.3.6.1.1.1.1.1" ∷ []) Integer true) ∷
    (row (codes "homeDirectory") (codes "1.3.6.1.1.1.1.3" ∷ []) Ia5CaseExact true) ∷
    (row (codes "loginShell") (codes "1.3.6.1.1.1.1.4" ∷ []) Ia5CaseExact true) ∷
    (row (codes "objectClass") (codes "2.5.4.0" ∷ []) ObjectId false) ∷
    []
