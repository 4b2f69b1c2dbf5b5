-- A name that is read from its end, each piece being printed as it is spelled.
use Rattle.std.proofs.Common.{◌≡◌, ℕ, ◌+◌, ◌<◌, ◌≤◌, Bool, true, false, cond, not, ◌&&◌, ◌||◌, nat_le, nat_lt, List, [], ◌∷◌, ◌++◌, length, reverse, take, drop, get_or, Some, Ok, refl, sym, ap, ◌∙◌, append_assoc, arith}
use Rattle.std.specs.Prelude.{◌==◌}
use Rattle.std.specs.List.{flat_map, list_all}
use Rattle.std.specs.Option.{option_and_then, option_map}
use Rattle.std.specs.Result.{result_ok}
use Rattle.std.proofs.lemmas.Bool.Decides.{nat_tests}
use Rattle.std.proofs.lemmas.List.{drop_more, reverse-append, take-append-drop}
use Rattle.dir_names.specs.declared.schema.TypeRow.{TypeRow}
use Rattle.dir_names.specs.Descriptions.{is_reserved, is_type}
use Rattle.dir_names.specs.Inside.SortKeys.{IsPlainRdn}
use Rattle.dir_names.specs.Inside.SortTexts.{name_sort, rdn_sort}
use Rattle.dir_names.specs.Keys.{DnKeys, RdnKeys}
use Rattle.dir_names.specs.NameKeys.{name_key, name_value_key, rdn_key}
use Rattle.dir_names.specs.Names.{SpelledName, SpelledPair, SpelledRdn}
use Rattle.dir_names.specs.Names.Limits.{is_rdn_within_limit, is_within_limits}
use Rattle.dir_names.specs.Names.Printing.{escape_of, is_special, printed_byte, printed_name, printed_pair, printed_rdn, printed_rest, printed_value}
use Rattle.dir_names.specs.Names.Reading.{name_within_limits}
use Rattle.dir_names.specs.Names.Sound.{is_sound_name, is_sound_pair}
use Rattle.dir_names.specs.Results.{option_collect, option_cons}
use Rattle.dir_names.proofs.Collected.{collect_append}
use Rattle.dir_names.proofs.PrintLemmas.{rest-snoc}
use Rattle.dir_names.proofs.ReadNames.{name_read_back}
use Rattle.dir_names.proofs.SoundLemmas.{are_bytes}
use Rattle.dir_names.proofs.SortedNames.{sort_more}

-- ---- a text cut at a byte

pub cut_at : (text : List ℕ) (i separator : ℕ) → i < length text → get_or text i 0 ≡ separator → text ≡ take i text ++ separator ∷ drop (i + 1) text
cut_at text i separator inside is =
    sym (take-append-drop i text) ∙ ap (λ l. take i text ++ l) (drop_more text i 0 inside ∙ ap (λ b. b ∷ drop (i + 1) text) is)

-- ---- values that are printed as they are

pub plain_byte : (b : ℕ) → is_special b ≡ false → printed_byte b ≡ b ∷ []
plain_byte b e = ap (λ s. cond s (escape_of b) (b ∷ [])) e

pub plain_bytes : (bs : List ℕ) → list_all (λ b. not (is_special b)) bs ≡ true → flat_map printed_byte bs ≡ bs
plain_bytes [] e = refl
plain_bytes (b ∷ bs) e = by (is_special b) refl e (plain_bytes bs)
  where
    by : (s : Bool) → is_special b ≡ s → not s && list_all (λ c. not (is_special c)) bs ≡ true → (list_all (λ c. not (is_special c)) bs ≡ true → flat_map printed_byte bs ≡ bs) → printed_byte b ++ flat_map printed_byte bs ≡ b ∷ bs
    by true f g rest = absurd (cc)
    by false f g rest = (λ i. plain_byte b f i ++ rest g i)

pub plain_rest : (bs middle : List ℕ) (last : ℕ) → bs ≡ middle ++ last ∷ [] → (last == 32) ≡ false → is_special last ≡ false → list_all (λ b. not (is_special b)) middle ≡ true → printed_rest bs ≡ bs
plain_rest bs middle last e space f g =
    ap printed_rest e ∙ rest-snoc middle last ∙ (λ i. plain_bytes middle g i ++ cond (space i) (escape_of last) (plain_byte last f i)) ∙ sym e

pub plain_value : (b : ℕ) (bs : List ℕ) → (b == 32) ≡ false → (b == 35) ≡ false → is_special b ≡ false → printed_rest bs ≡ bs → printed_value (b ∷ bs) ≡ b ∷ bs
plain_value b bs space sharp e rest = λ i. cond (space i || sharp i) (escape_of b) (plain_byte b e i) ++ rest i

-- ---- legal pairs

and_right : (a b : Bool) → a && b ≡ true → b ≡ true
and_right true b e = e
and_right false b e = absurd (cc)

pub bytes_after : (before rest : List ℕ) (b : ℕ) → are_bytes (before ++ b ∷ rest) ≡ true → are_bytes rest ≡ true
bytes_after [] rest b e = and_right (nat_lt b 256) (are_bytes rest) e
bytes_after (x ∷ xs) rest b e = bytes_after xs rest b (and_right (nat_lt x 256) (are_bytes (xs ++ b ∷ rest)) e)

pub legal_pair : (attr_type value : List ℕ) → is_type attr_type ≡ true → is_reserved attr_type ≡ false → are_bytes value ≡ true → is_sound_pair (attr_type, value) ≡ true
legal_pair attr_type value e f g = λ i. (e i && not (f i)) && g i

-- ---- the RDNs from the last comma on

-- the rest of a text, before a name that is printed
abbrev pub before_name : List ℕ → SpelledName → List ℕ
before_name rest [] = rest
before_name rest (r ∷ rs) = rest ++ 44 ∷ printed_name (r ∷ rs)

-- what has been read of a value, from its end
pub record IsReadFrom (rows : List TypeRow) (value rest : List ℕ) (room : ℕ) (out : List ℕ) : Type 0 where
  pub done : SpelledName
  pub keys : DnKeys
  pub text : value ≡ before_name rest done
  pub fits : length done + room ≡ 64
  pub sound : is_sound_name done ≡ true
  pub within : list_all is_rdn_within_limit done ≡ true
  pub keyed : name_key rows done ≡ Some keys
  pub sorted : out ≡ name_sort keys

pub nothing_read : (rows : List TypeRow) (value : List ℕ) → IsReadFrom rows value value 64 []
nothing_read rows value = record { done = []; keys = []; text = refl; fits = refl; sound = refl; within = refl; keyed = refl; sorted = refl }

printed_more : (piece : List ℕ) (pair : SpelledPair) (done : SpelledName) → piece ≡ printed_pair pair → before_name piece done ≡ printed_name ((pair ∷ []) ∷ done)
printed_more piece pair [] e = e
printed_more piece pair (r ∷ rs) e = ap (λ p. p ++ 44 ∷ printed_name (r ∷ rs)) e

before_more : (before piece : List ℕ) (done : SpelledName) → before_name (before ++ 44 ∷ piece) done ≡ before ++ 44 ∷ before_name piece done
before_more before piece [] = refl
before_more before piece (r ∷ rs) = append_assoc before (44 ∷ piece) (44 ∷ printed_name (r ∷ rs))

key_more : (rows : List TypeRow) (r : SpelledRdn) (done : SpelledName) (keys : DnKeys) (key : RdnKeys) → name_key rows done ≡ Some keys → rdn_key rows r ≡ Some key → name_key rows (r ∷ done) ≡ Some (keys ++ key ∷ [])
key_more rows r done keys key e f =
    ap (option_collect (rdn_key rows)) (reverse-append (r ∷ []) done) ∙ collect_append (rdn_key rows) (reverse done) (r ∷ []) keys (key ∷ []) e (ap (λ o. option_cons o (Some [])) f)

module _ (rows : List TypeRow) (value : List ℕ) (room : ℕ) (out new : List ℕ) (piece : List ℕ) (plain : IsPlainRdn rows piece out new) where
  abbrev rdn : SpelledRdn
  rdn = plain.0 ∷ []

  sound_more : (done : SpelledName) → is_sound_name done ≡ true → is_sound_name (rdn ∷ done) ≡ true
  sound_more done e = λ i. (plain.3 i && true) && e i

  within_more : (done : SpelledName) → list_all is_rdn_within_limit done ≡ true → list_all is_rdn_within_limit (rdn ∷ done) ≡ true
  within_more done e = (λ i. nat_le (length (printed i)) 4096 && e i) ∙ ap (λ b. b && true) plain.4
    where
      printed : printed_rdn rdn ≡ piece
      printed = sym plain.2

  pub rdn_read : (before rest : List ℕ) → rest ≡ before ++ 44 ∷ piece → IsReadFrom rows value rest (room + 1) out → IsReadFrom rows value before room new
  rdn_read before rest e r = record {
    done = rdn ∷ r.done;
    keys = r.keys ++ plain.1 ∷ [];
    text = r.text ∙ ap (λ t. before_name t r.done) e ∙ before_more before piece r.done ∙ ap (λ t. before ++ 44 ∷ t) (printed_more piece plain.0 r.done plain.2);
    fits = (let fits = r.fits in omega arith);
    sound = sound_more r.done r.sound;
    within = within_more r.done r.within;
    keyed = key_more rows rdn r.done r.keys plain.1 r.keyed plain.5;
    sorted = plain.6 ∙ ap (λ t. t ++ 1 ∷ rdn_sort plain.1) r.sorted ∙ sym (sort_more r.keys plain.1);
  }

  pub last_read : (rest : List ℕ) → rest ≡ piece → IsReadFrom rows value rest (room + 1) out → option_map name_sort (name_value_key rows value) ≡ Some new
  last_read rest e r =
      let name = rdn ∷ r.done in
      let text : value ≡ printed_name name = r.text ∙ ap (λ t. before_name t r.done) e ∙ printed_more piece plain.0 r.done plain.2 in
      let fits = r.fits in
      let count : length name ≤ 64 = omega arith in
      let few : nat_le (length name) 64 ≡ true = grind (arith, nat_tests) in
      let within : is_within_limits name ≡ true = λ i. few i && within_more r.done r.within i in
      let read : name_within_limits value ≡ Ok name = ap name_within_limits text ∙ name_read_back name (sound_more r.done r.sound) within in
      let keyed = key_more rows rdn r.done r.keys plain.1 r.keyed plain.5 in
      ap (λ n. option_map name_sort (option_and_then (name_key rows) (result_ok n))) read ∙ ap (option_map name_sort) keyed
      ∙ ap Some (sort_more r.keys plain.1 ∙ sym (plain.6 ∙ ap (λ t. t ++ 1 ∷ rdn_sort plain.1) r.sorted))
