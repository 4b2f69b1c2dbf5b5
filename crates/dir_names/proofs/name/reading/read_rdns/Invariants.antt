use Rattle.std.proofs.Common.{◌≡◌, ◌+◌, length, true}
use Rattle.std.specs.Prelude.{◌&&◌}
use Rattle.std.specs.List.{list_all}
use Rattle.std.specs.Option.{option_copied, option_map_or}
use Rattle.dir_names.specs.Names.Limits.{is_rdn_within_limit, ok_if_within}
use Rattle.dir_names.specs.Names.Reading.{rdn_of}
use Rattle.dir_names.specs.Inside.Left.{pieces_left}
use Rattle.dir_names.specs.Results.{option_collect}
use Rattle.dir_names.proofs.AllLemmas.{prefixed}
use Rattle.dir_names.proofs.name.reading.read_rdns.Given as goal

-- what the text spells, with the RDNs that are kept; an RDN past the limit is not kept
abbrev pub invariant-loop-rest : goal.invariant-loop-rest
invariant-loop-rest l =
    (list_all is_rdn_within_limit l.rdns.items ≡ true)
    × (ok_if_within (list_all is_rdn_within_limit) (option_collect rdn_of (pieces_left 44 (option_copied l.initial.rest)))
    ≡ ok_if_within (λ name. l.are_within && list_all is_rdn_within_limit name) (prefixed l.rdns.items (option_collect rdn_of (pieces_left 44 (option_copied l.rest)))))

abbrev pub decreases-loop-rest : goal.decreases-loop-rest
decreases-loop-rest l = option_map_or (λ text. length text + 1) (option_copied l.rest) 0
