-- What the first bytes of a text show that it is.
use Rattle.std.specs.Prelude.{ℕ, ◌||◌, cond, nat_eq, List, [], ◌∷◌, codes, Option, Some, None}
use Rattle.std.specs.List.{starts_with}
use Rattle.dir_hints.specs.declared.form.Form.{Form}
use Rattle.dir_hints.specs.declared.form.Form.TheVariants.{Marked, Utf16, Gzip, Search}

-- U+FEFF in UTF-8 (RFC 3629, section 6), and in UTF-16 of either order (RFC 2781, section 3.2)
abbrev byte_order_mark : List ℕ
byte_order_mark = 239 ∷ 187 ∷ 191 ∷ []

abbrev big_endian_mark : List ℕ
big_endian_mark = 254 ∷ 255 ∷ []

abbrev little_endian_mark : List ℕ
little_endian_mark = 255 ∷ 254 ∷ []

-- ID1 and ID2 (RFC 1952, section 2.3.1)
abbrev gzip_mark : List ℕ
gzip_mark = 31 ∷ 139 ∷ []

-- the first line of ldapsearch(1) without -L
abbrev search_line : List ℕ
search_line = codes "# extended LDIF\n"

abbrev pub form_of : List ℕ → Option Form
form_of text = cond (starts_with nat_eq text byte_order_mark) (Some Marked)
    (cond (starts_with nat_eq text big_endian_mark || starts_with nat_eq text little_endian_mark) (Some Utf16)
    (cond (starts_with nat_eq text gzip_mark) (Some Gzip)
    (cond (starts_with nat_eq text search_line) (Some Search) None)))

abbrev pub form_text : Form → List ℕ
form_text Marked = codes "begins with a byte order mark (BOM): remove its first three bytes"
form_text Utf16 = codes "is UTF-16: make UTF-8 of it"
form_text Gzip = codes "is compressed by gzip: decompress it"
form_text Search = codes "is what ldapsearch writes without -LLL: search again with -LLL"
