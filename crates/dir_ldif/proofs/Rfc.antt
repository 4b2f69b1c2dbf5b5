-- Lines of the examples of RFC 2849, proved of the definitions.
use Rattle.std.proofs.Common.{◌≡◌, [], ◌∷◌, false, codes, refl, Ok, Err}
use Rattle.dir_ldif.specs.declared.faults.RecordFault.TheVariants.{UrlValue}
use Rattle.dir_ldif.specs.declared.reader.version.Version.TheVariants.{One}
use Rattle.dir_ldif.specs.AttrVal.{attrval_of}
use Rattle.dir_ldif.specs.Blocks.{blocks_of, version_of}
use Rattle.dir_ldif.specs.LineText.{fold_from, is_plain, written_line}
use Rattle.dir_ldif.specs.LogicalLines.{lines_of}

-- "version: 1"
pub version-line : version_of (codes "version: 1") ≡ One
version-line = refl

-- example 1: a plain value
pub plain-value : attrval_of (codes "cn: Barbara Jensen") ≡ Ok (codes "cn", codes "Barbara Jensen")
unfolding attrval_of
plain-value = refl

-- example 2: a folded value
pub folded-value : lines_of (codes "title:Product Manager, Rod and Reel Division\ndescription:Babs is a big sailing fan, and travels extensively in sea\n rch of perfect sailing conditions.\n")
    ≡ (1, codes "title:Product Manager, Rod and Reel Division") ∷ (2, codes "description:Babs is a big sailing fan, and travels extensively in search of perfect sailing conditions.") ∷ []
folded-value = refl

-- example 5: a value that is named by a URL
pub url-value : attrval_of (codes "jpegphoto:< file:///usr/local/directory/photos/fiona.jpg") ≡ Err UrlValue
unfolding attrval_of
url-value = refl

-- example 6: comments and empty lines between records
pub two-blocks : blocks_of (codes "version: 1\n# Add a new entry\ndn: cn=Fiona Jensen, ou=Marketing, dc=airius, dc=com\nchangetype: add\n\n# Delete an existing entry\ndn: cn=Robert Jensen, ou=Marketing, dc=airius, dc=com\nchangetype: delete\n")
    ≡ Ok ((3, codes "dn: cn=Fiona Jensen, ou=Marketing, dc=airius, dc=com") ∷ (4, codes "changetype: add") ∷ [])
    ∷ Ok ((7, codes "dn: cn=Robert Jensen, ou=Marketing, dc=airius, dc=com") ∷ (8, codes "changetype: delete") ∷ []) ∷ []
two-blocks = refl

-- note 8: a value that ends in a space is not written plainly
pub trailing-space : is_plain (codes "Product Manager ") ≡ false
trailing-space = refl

-- note 2: a line of more than 76 bytes is folded
pub folded-line : written_line (codes "description") (codes "Babs is a big sailing fan, and travels extensively in search of perfect sailing conditions.")
    ≡ codes "description: Babs is a big sailing fan, and travels extensively in search of\n  perfect sailing conditions.\n"
unfolding fold_from
folded-line = refl
