-- Examples of slapd.conf(5), "GENERAL FORMAT", as the definitions have them.
use Rattle.std.proofs.Common.{◌≡◌, List, [], ◌∷◌, ◌++◌, Some, None, refl}
use Rattle.std.specs.Prelude.{codes}
use Rattle.dir_names.specs.Ascii.{line_feed, carriage_return, double_quote, backslash}
use Rattle.dir_conf_text.specs.declared.text.Said.TheVariants.{Words, Definition}
use Rattle.dir_conf_text.specs.Arguments.{arguments_of}
use Rattle.dir_conf_text.specs.declared.joining.Joining.TheVariants.{Plain}
use Rattle.dir_conf_text.specs.Lines.{logical_lines}
use Rattle.dir_conf_text.specs.Text.{config_lines}

-- a line that begins with white space continues the line before; carriage returns are dropped. The numbers are those of the first physical lines
pub continued : logical_lines Plain (codes "a" ++ carriage_return ∷ line_feed ∷ codes " b" ++ line_feed ∷ codes "c") ≡ (1, codes "a b") ∷ (3, codes "c") ∷ []
continued = refl

-- the first line stands for itself
pub first_line : logical_lines Plain (codes " a" ++ line_feed ∷ codes " b") ≡ (1, codes " a b") ∷ []
first_line = refl

-- an argument with white space stands in quotes, and a backslash takes a quote as it is
pub quoted : arguments_of (codes "a " ++ double_quote ∷ codes "b c" ++ double_quote ∷ codes "d " ++ backslash ∷ double_quote ∷ []) ≡ Some (codes "a") ∷ Some (codes "b cd") ∷ Some (double_quote ∷ []) ∷ []
quoted = refl

-- an open quote, and a backslash at the line's end
pub open_quote : arguments_of (codes "a " ++ double_quote ∷ codes "b c") ≡ Some (codes "a") ∷ None ∷ []
open_quote = refl

pub final_backslash : arguments_of (codes "a b" ++ backslash ∷ []) ≡ Some (codes "a") ∷ None ∷ []
final_backslash = refl

-- comments and empty lines say nothing, and the definition of a type is not cut
pub lines_that_say_something : config_lines (codes "# one" ++ line_feed ∷ line_feed ∷ codes "attributetype ( 1.1 )" ++ line_feed ∷ codes "a b" ++ line_feed ∷ [])
    ≡ (record { number = 3; said = Definition (codes " ( 1.1 )") }) ∷ (record { number = 4; said = Words (Some (codes "a") ∷ Some (codes "b") ∷ []) }) ∷ []
lines_that_say_something = refl
