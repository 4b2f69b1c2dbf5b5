-- The keys of the types that copies of directories use most, in order, so that two of them are compared by their places.
use Rattle.std.specs.Prelude.{◌≡◌, ◌<◌, ℕ, true, nat_lt, List, [], ◌∷◌, length, codes}
use Rattle.std.proofs.Math.ListN.{get_or}
use Rattle.dir_names.specs.Attr.{Attr}

unfoldable pub ranked_types : List (List ℕ)
ranked_types =
    codes "businesscategory" ∷
    codes "c" ∷
    codes "carlicense" ∷
    codes "cn" ∷
    codes "contextcsn" ∷
    codes "createtimestamp" ∷
    codes "creatorsname" ∷
    codes "dc" ∷
    codes "departmentnumber" ∷
    codes "description" ∷
    codes "destinationindicator" ∷
    codes "displayname" ∷
    codes "employeenumber" ∷
    codes "employeetype" ∷
    codes "entrycsn" ∷
    codes "entrydn" ∷
    codes "entryuuid" ∷
    codes "facsimiletelephonenumber" ∷
    codes "gecos" ∷
    codes "gidnumber" ∷
    codes "givenname" ∷
    codes "hassubordinates" ∷
    codes "homedirectory" ∷
    codes "homephone" ∷
    codes "homepostaladdress" ∷
    codes "initials" ∷
    codes "jpegphoto" ∷
    codes "l" ∷
    codes "labeleduri" ∷
    codes "loginshell" ∷
    codes "mail" ∷
    codes "manager" ∷
    codes "member" ∷
    codes "memberuid" ∷
    codes "mobile" ∷
    codes "modifiersname" ∷
    codes "modifytimestamp" ∷
    codes "nisnetgrouptriple" ∷
    codes "o" ∷
    codes "objectclass" ∷
    codes "ou" ∷
    codes "owner" ∷
    codes "pager" ∷
    codes "physicaldeliveryofficename" ∷
    codes "postaladdress" ∷
    codes "postalcode" ∷
    codes "preferredlanguage" ∷
    codes "registeredaddress" ∷
    codes "roomnumber" ∷
    codes "secretary" ∷
    codes "seealso" ∷
    codes "shadowlastchange" ∷
    codes "shadowmax" ∷
    codes "shadowmin" ∷
    codes "shadowwarning" ∷
    codes "sn" ∷
    codes "sshpublickey" ∷
    codes "st" ∷
    codes "street" ∷
    codes "structuralobjectclass" ∷
    codes "subschemasubentry" ∷
    codes "telephonenumber" ∷
    codes "title" ∷
    codes "uid" ∷
    codes "uidnumber" ∷
    codes "uniquemember" ∷
    codes "usercertificate" ∷
    codes "userpassword" ∷
    []

-- the type at a place
abbrev pub ranked_type : ℕ → List ℕ
ranked_type rank = get_or ranked_types rank []

-- its attribute without options
abbrev pub ranked_attr : ℕ → Attr
ranked_attr rank = record { attr_type = ranked_type rank; options = [] }

-- a type is the one at this place
abbrev pub HasRank : List ℕ → ℕ → Type 0
HasRank attr_type rank = (nat_lt rank 68 ≡ true) × (attr_type ≡ ranked_type rank)

-- a text is at a place of a list
abbrev pub IsTextAt : List (List ℕ) → List ℕ → ℕ → Type 0
IsTextAt texts text at = (at < length texts) × (get_or texts at [] ≡ text)
