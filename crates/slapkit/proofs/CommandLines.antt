-- Worked examples of command lines, proved of the definitions.
use Rattle.std.proofs.Common.{[], ◌∷◌, ◌≡◌, List, None, Option, Some, codes, option_map, refl}
use Rattle.clap.specs.Simple.{subcommand_of}
use Rattle.clap.specs.Walk.{Row, Text, all_of, first_of, one_of}
use Rattle.clap.proofs.OnLiterals.{clap_on_literals}
use Rattle.slapkit.specs.CommandLine.{slapkit}

-- what is found in the options of the tool that a command line names
abbrev found_in : {A : Type 0} → (List Row → A) → List Text → Option (Text × A)
found_in get words = option_map (λ (p : Text × List Row). (p.0, get p.1)) (subcommand_of slapkit words)

-- slapkit slapmodify -b dc=com --data=copy.ldif -cl changes.ldif --out new.ldif
abbrev change : List Text
change = codes "slapkit" ∷ codes "slapmodify" ∷ codes "-b" ∷ codes "dc=com" ∷ codes "--data=copy.ldif" ∷ codes "-cl" ∷ codes "changes.ldif" ∷ codes "--out" ∷ codes "new.ldif" ∷ []

pub suffix-after-its-letter : found_in (first_of (codes "suffix")) change ≡ Some (codes "slapmodify", Some (codes "dc=com"))
unfolding clap_on_literals
suffix-after-its-letter = refl

pub copy-after-an-equals-sign : found_in (first_of (codes "data")) change ≡ Some (codes "slapmodify", Some (codes "copy.ldif"))
unfolding clap_on_literals
copy-after-an-equals-sign = refl

pub changes-after-two-letters : found_in (first_of (codes "changes")) change ≡ Some (codes "slapmodify", Some (codes "changes.ldif"))
unfolding clap_on_literals
changes-after-two-letters = refl

pub a-flag-that-is-given : found_in (one_of (codes "go_on")) change ≡ Some (codes "slapmodify", Some (codes "true"))
unfolding clap_on_literals
a-flag-that-is-given = refl

pub a-flag-that-is-not : found_in (one_of (codes "dry")) change ≡ Some (codes "slapmodify", Some (codes "false"))
unfolding clap_on_literals
a-flag-that-is-not = refl

-- slapkit slapacl -b cn=a -f slapd.conf --data copy.ldif cn/read -- -x
abbrev question : List Text
question = codes "slapkit" ∷ codes "slapacl" ∷ codes "-b" ∷ codes "cn=a" ∷ codes "-f" ∷ codes "slapd.conf" ∷ codes "--data" ∷ codes "copy.ldif" ∷ codes "cn/read" ∷ codes "--" ∷ codes "-x" ∷ []

pub words-of-a-question : found_in (all_of (codes "words")) question ≡ Some (codes "slapacl", Some (codes "cn/read" ∷ codes "-x" ∷ []))
unfolding clap_on_literals
words-of-a-question = refl

pub no-file-of-questions : found_in (first_of (codes "questions")) question ≡ Some (codes "slapacl", None)
unfolding clap_on_literals
no-file-of-questions = refl
