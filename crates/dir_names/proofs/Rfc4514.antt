-- The examples of RFC 4514, section 4, as `name_of` reads them. A value that begins with `#` (the fifth example) is refused here.
use Rattle.std.specs.Prelude.{◌≡◌, [], ◌∷◌, ◌++◌, Some, None, codes, refl}
use Rattle.dir_names.specs.Names.Printing.{printed_name}
use Rattle.dir_names.specs.Names.Reading.{name_of}

pub plain_name : name_of (codes "UID=jsmith,DC=example,DC=net")
    ≡ Some (((codes "UID", codes "jsmith") ∷ []) ∷ ((codes "DC", codes "example") ∷ []) ∷ ((codes "DC", codes "net") ∷ []) ∷ [])
plain_name = refl

pub pairs_of_one_rdn : name_of (codes "OU=Sales+CN=J.  Smith,DC=net")
    ≡ Some (((codes "OU", codes "Sales") ∷ (codes "CN", codes "J.  Smith") ∷ []) ∷ ((codes "DC", codes "net") ∷ []) ∷ [])
pairs_of_one_rdn = refl

pub escaped_signs : name_of (codes "CN=James \\\"Jim\\\" Smith\\, III,DC=net")
    ≡ Some (((codes "CN", codes "James \"Jim\" Smith, III") ∷ []) ∷ ((codes "DC", codes "net") ∷ []) ∷ [])
escaped_signs = refl

pub escaped_line_break : name_of (codes "CN=Before\\0dAfter,DC=net")
    ≡ Some (((codes "CN", codes "Before" ++ 13 ∷ codes "After") ∷ []) ∷ ((codes "DC", codes "net") ∷ []) ∷ [])
escaped_line_break = refl

pub encoded_value : name_of (codes "1.3.6.1.4.1.1466.0=#04024869") ≡ None
encoded_value = refl

pub escaped_utf8 : name_of (codes "CN=Lu\\C4\\8Di\\C4\\87")
    ≡ Some (((codes "CN", codes "Lu" ++ 196 ∷ 141 ∷ codes "i" ++ 196 ∷ 135 ∷ []) ∷ []) ∷ [])
escaped_utf8 = refl

-- the same names as they are printed
pub printed_signs : printed_name (((codes "CN", codes "James \"Jim\" Smith, III") ∷ []) ∷ ((codes "DC", codes "net") ∷ []) ∷ [])
    ≡ codes "CN=James \\22Jim\\22 Smith\\2C III,DC=net"
printed_signs = refl

pub printed_utf8 : printed_name (((codes "CN", codes "Lu" ++ 196 ∷ 141 ∷ codes "i" ++ 196 ∷ 135 ∷ []) ∷ []) ∷ [])
    ≡ codes "CN=Lu\\C4\\8Di\\C4\\87"
printed_utf8 = refl
