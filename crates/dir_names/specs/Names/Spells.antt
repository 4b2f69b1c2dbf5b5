-- Which name a text spells, as the grammar (RFC 4514, sections 2 and 3; besides, spaces without an escape are allowed, and skipped, around a separator,
-- around the `=` after a type, and at both ends of the text).
use Rattle.std.specs.Prelude.{◌≡◌, ℕ, ◌+◌, ◌*◌, true, false, List, [], ◌∷◌, ◌++◌, replicate}
use Rattle.dir_names.specs.Ascii.{space, sharp, plus, comma, equals_sign, backslash}
use Rattle.dir_names.specs.Descriptions.{is_type, is_reserved}
use Rattle.dir_names.specs.Names.{SpelledPair, SpelledRdn, SpelledName}
use Rattle.dir_names.specs.Names.Escapes.{is_hex, hex_of, is_refused, is_escapable}

-- one byte of a value, other than a plain space: a backslash and two hexadecimal digits; a backslash and a sign; or a byte that needs no escape
pub data SpellsByte : List ℕ → ℕ → Type 0 where
  digits : (h l : ℕ) → is_hex h ≡ true → is_hex l ≡ true → SpellsByte (backslash ∷ h ∷ l ∷ []) (hex_of h * 16 + hex_of l)
  sign : (b : ℕ) → is_escapable b ≡ true → SpellsByte (backslash ∷ b ∷ []) b
  plain : (b : ℕ) → is_refused b ≡ false → (b ≡ space → ⊥) → SpellsByte (b ∷ []) b

-- the bytes of a value, one after the other, and plain spaces, which count only where more of the value follows
pub data SpellsBytes : List ℕ → List ℕ → Type 0 where
  none : SpellsBytes [] []
  byte : (text : List ℕ) (b : ℕ) (more value : List ℕ) → SpellsByte text b → SpellsBytes more value → SpellsBytes (text ++ more) (b ∷ value)
  inner_space : (more : List ℕ) (b : ℕ) (value : List ℕ) → SpellsBytes more (b ∷ value) → SpellsBytes (space ∷ more) (space ∷ b ∷ value)
  trailing_space : (more : List ℕ) → SpellsBytes more [] → SpellsBytes (space ∷ more) []

-- a text that begins with neither a space nor a `#`
pub data BeginsValue : List ℕ → Type 0 where
  empty : BeginsValue []
  begins : (b : ℕ) (more : List ℕ) → (b ≡ space → ⊥) → (b ≡ sharp → ⊥) → BeginsValue (b ∷ more)

-- a type, `=` and a value, with spaces before and after the type and before the value
pub data SpellsPair : List ℕ → SpelledPair → Type 0 where
  pair : (before after_type before_value : ℕ) (attr_type text value : List ℕ) → is_type attr_type ≡ true → is_reserved attr_type ≡ false → BeginsValue text → SpellsBytes text value
      → SpellsPair (replicate before space ++ (attr_type ++ (replicate after_type space ++ equals_sign ∷ (replicate before_value space ++ text)))) (attr_type, value)

-- one or more pairs, with `+` between them
pub data SpellsRdn : List ℕ → SpelledRdn → Type 0 where
  last_pair : (text : List ℕ) (p : SpelledPair) → SpellsPair text p → SpellsRdn text (p ∷ [])
  pair_before : (text : List ℕ) (p : SpelledPair) (rest : List ℕ) (ps : SpelledRdn) → SpellsPair text p → SpellsRdn rest ps → SpellsRdn (text ++ plus ∷ rest) (p ∷ ps)

-- one or more RDNs, with `,` between them
pub data SpellsRdns : List ℕ → SpelledName → Type 0 where
  last_rdn : (text : List ℕ) (rdn : SpelledRdn) → SpellsRdn text rdn → SpellsRdns text (rdn ∷ [])
  rdn_before : (text : List ℕ) (rdn : SpelledRdn) (rest : List ℕ) (rdns : SpelledName) → SpellsRdn text rdn → SpellsRdns rest rdns → SpellsRdns (text ++ comma ∷ rest) (rdn ∷ rdns)

-- a name: RDNs, or nothing
pub data Spells : List ℕ → SpelledName → Type 0 where
  nothing : Spells [] []
  rdns : (text : List ℕ) (name : SpelledName) → SpellsRdns text name → Spells text name
