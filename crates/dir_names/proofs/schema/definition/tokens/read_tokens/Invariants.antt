use Rattle.std.proofs.Common.{◌≡◌, drop}
use Rattle.dir_names.specs.Definitions.Tokens.{tokens_of}
use Rattle.dir_names.specs.Inside.TokensSoFar.{all_tokens}
use Rattle.dir_names.proofs.schema.definition.tokens.read_tokens.Given as goal

abbrev pub invariant-loop-b : goal.invariant-loop-b
invariant-loop-b l = all_tokens l.reader.tokens.items l.reader.spot l.reader.item.items (drop l.b-index l.text) ≡ tokens_of l.text
