-- Sound names (RFC 4514, section 2): each RDN has a pair, each type is one that a name may have, and each value consists of bytes.
use Rattle.std.specs.Prelude.{Bool, not, ◌&&◌, ◌==◌, nat_lt, length}
use Rattle.std.specs.List.{list_all}
use Rattle.dir_names.specs.Descriptions.{is_type, is_reserved}
use Rattle.dir_names.specs.Names.{SpelledPair, SpelledRdn, SpelledName}

abbrev pub is_sound_pair : SpelledPair → Bool
is_sound_pair pair = (is_type pair.0 && not (is_reserved pair.0)) && list_all (λ b. nat_lt b 256) pair.1

abbrev pub is_sound_rdn : SpelledRdn → Bool
is_sound_rdn rdn = not (length rdn == 0) && list_all is_sound_pair rdn

abbrev pub is_sound_name : SpelledName → Bool
is_sound_name name = list_all is_sound_rdn name
