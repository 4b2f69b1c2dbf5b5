-- What the reader of a definition's parts has read.
use Rattle.std.specs.Prelude.{List, ◌++◌, Option, option_map}
use Rattle.dir_names.specs.declared.schema.definition.parts.Part.{Part}
use Rattle.dir_names.specs.declared.schema.definition.parts.Place.{Place}
use Rattle.dir_names.specs.declared.schema.definition.tokens.Token.{Token}
use Rattle.dir_names.specs.Definitions.Parts.{parts_from}

-- all parts, where these were read, the reader is at this place and these tokens come
abbrev pub all_parts : List Part → Place → List Token → Option (List Part)
all_parts done place tokens = option_map (λ more. done ++ more) (parts_from place tokens)
