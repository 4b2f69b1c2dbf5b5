-- What definitions of attribute types say, as RFC 4519 (sections 2.3 and 2.4) and RFC 4512 (section 3.4.1) have them.
use Rattle.std.specs.Prelude.{◌≡◌, true, false, [], ◌∷◌, codes, Some, None, refl}
use Rattle.dir_names.specs.Definitions.{definition_of}

pub country : definition_of (codes "( 2.5.4.6 NAME 'c' SUP name SYNTAX 1.3.6.1.4.1.1466.115.121.1.11 SINGLE-VALUE )")
    ≡ Some (record { number = codes "2.5.4.6"; names = codes "c" ∷ []; sup = Some (codes "name"); equality = None; single = true })
country = refl

pub common_name : definition_of (codes "( 2.5.4.3 NAME 'cn' SUP name )")
    ≡ Some (record { number = codes "2.5.4.3"; names = codes "cn" ∷ []; sup = Some (codes "name"); equality = None; single = false })
common_name = refl

pub creator : definition_of (codes "( 2.5.18.3 NAME 'creatorsName' EQUALITY distinguishedNameMatch SYNTAX 1.3.6.1.4.1.1466.115.121.1.12 SINGLE-VALUE NO-USER-MODIFICATION USAGE directoryOperation )")
    ≡ Some (record { number = codes "2.5.18.3"; names = codes "creatorsName" ∷ []; sup = None; equality = Some (codes "distinguishedNameMatch"); single = true })
creator = refl
