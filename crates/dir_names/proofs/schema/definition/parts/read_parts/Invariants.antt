use Rattle.std.proofs.Common.{◌≡◌, drop}
use Rattle.dir_names.specs.Definitions.Parts.{parts_of}
use Rattle.dir_names.specs.Inside.PartsSoFar.{all_parts}
use Rattle.dir_names.proofs.schema.definition.parts.read_parts.Given as goal

abbrev pub invariant-loop-token : goal.invariant-loop-token
invariant-loop-token l = all_parts l.reader.parts.items l.reader.place (drop l.token-index l.tokens) ≡ parts_of l.tokens
