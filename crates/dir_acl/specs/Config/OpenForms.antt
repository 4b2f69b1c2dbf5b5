-- The forms of slapd.access(5) that aren't decided ("THE <WHAT> FIELD", "THE <WHO> FIELD", "THE <ACCESS> FIELD"). A form is what is before the `=` of a word: a
-- keyword, and mostly a style after a dot.
use Rattle.std.specs.Prelude.{ℕ, Bool, true, false, not, ◌&&◌, ◌||◌, ◌==◌, ◌-◌, cond, nat_lt, List, [], ◌∷◌, codes, drop, length, take, Option, Some, None, is_some}
use Rattle.std.specs.List.{before_first, list_all, list_any}
use Rattle.dir_names.specs.Ascii.{comma, dot, equals_sign, hyphen}
use Rattle.dir_names.specs.Cut.{after_first_separator}
use Rattle.dir_names.specs.Descriptions.{is_digit}
use Rattle.dir_conf_text.specs.Keywords.{is_word}
use Rattle.dir_acl.specs.declared.access.Edit.{Edit}
use Rattle.dir_acl.specs.declared.filter.assertion.Operator.{Operator}
use Rattle.dir_acl.specs.declared.filter.assertion.Operator.TheVariants as op
use Rattle.dir_acl.specs.Config.Names.{form_of, style_of}
use Rattle.dir_acl.specs.Config.Permissions.{edit_of}
use Rattle.dir_acl.specs.Config.Whos.{slash}
use Rattle.dir_acl.specs.Filters.{begins_test, in_parentheses}
use Rattle.dir_acl.specs.Notes.{asks_presence}
use Rattle.dir_acl.specs.Signs.{asterisk, close_parenthesis, exclamation_mark, open_parenthesis}
use Rattle.dir_acl.specs.Tests.{operator_of}

abbrev pub keyword_of : List ℕ → List ℕ
keyword_of form = before_first (λ b. b == dot) form

abbrev pub style_after : List ℕ → Option (List ℕ)
style_after form = after_first_separator dot form

abbrev pub begins_with_word : List ℕ → List ℕ → Bool
begins_with_word text word = cond (nat_lt (length text) (length word)) false (is_word (take (length word) text) word)

-- ---- styles

abbrev pub is_pattern_style : List ℕ → Bool
is_pattern_style style = is_word style (codes "exact") || (is_word style (codes "regex") || is_word style (codes "expand"))

abbrev pub is_set_style : List ℕ → Bool
is_set_style style = is_word style (codes "exact") || is_word style (codes "expand")

abbrev pub is_peer_style : List ℕ → Bool
is_peer_style style = is_pattern_style style || (is_word style (codes "ip") || (is_word style (codes "ipv6") || is_word style (codes "path")))

abbrev pub is_domain_style : List ℕ → Bool
is_domain_style style = is_pattern_style style || (is_word style (codes "sub") || is_word style (codes "subtree"))

-- those of a name in a <what>, and of a value
abbrev pub is_name_style : List ℕ → Bool
is_name_style style =
    (is_word style (codes "exact") || (is_word style (codes "base") || is_word style (codes "baseobject")))
    || ((is_word style (codes "one") || is_word style (codes "onelevel"))
    || ((is_word style (codes "sub") || is_word style (codes "subtree")) || (is_word style (codes "children") || is_word style (codes "regex"))))

-- `level{N}`
abbrev pub is_number : List ℕ → Bool
is_number digits = not (length digits == 0) && list_all is_digit digits

abbrev pub is_signed : List ℕ → Bool
is_signed [] = false
is_signed (b ∷ bs) = cond (b == hyphen) (is_number bs) (is_number (b ∷ bs))

abbrev pub is_empty_text : Option (List ℕ) → Bool
is_empty_text None = false
is_empty_text (Some text) = length text == 0

abbrev pub is_braced : Option (List ℕ) → Bool
is_braced None = false
is_braced (Some text) = is_signed (before_first (λ b. b == 125) text) && is_empty_text (after_first_separator 125 text)

abbrev pub is_level : List ℕ → Bool
is_level style = is_word (before_first (λ b. b == 123) style) (codes "level") && is_braced (after_first_separator 123 style)

-- those of a name in a <who>
abbrev pub is_requester_style : List ℕ → Bool
is_requester_style style = is_name_style style || (is_word style (codes "expand") || is_level style)

-- `STYLE[,expand]`
abbrev pub is_modifier : Option (List ℕ) → Bool
is_modifier None = true
is_modifier (Some modifier) = is_word modifier (codes "expand")

abbrev pub is_modified : (List ℕ → Bool) → List ℕ → Bool
is_modified is_style text = is_style (before_first (λ b. b == comma) text) && is_modifier (after_first_separator comma text)

-- a style, or none
abbrev pub is_none_or : (List ℕ → Bool) → Option (List ℕ) → Bool
is_none_or is_style None = true
is_none_or is_style (Some style) = is_style style

abbrev pub is_some_and : (List ℕ → Bool) → Option (List ℕ) → Bool
is_some_and is_style None = false
is_some_and is_style (Some style) = is_style style

-- ---- <who>

-- `real` before a word is for the identity that asks by another one's name; here nobody does, so the two are one
abbrev pub has_identity : List ℕ → Bool
has_identity keyword =
    (is_word keyword (codes "anonymous") || is_word keyword (codes "users"))
    || (is_word keyword (codes "self") || (is_word keyword (codes "dn") || is_word keyword (codes "dnattr")))

abbrev pub is_real : List ℕ → Bool
is_real word = begins_with_word word (codes "real") && has_identity (keyword_of (form_of (drop 4 word)))

abbrev pub without_real : List ℕ → List ℕ
without_real word = cond (is_real word) (drop 4 word) word

-- without a value: `self.level{N}` and `aci`
abbrev pub is_open_flag_of : List ℕ → Option (List ℕ) → Bool
is_open_flag_of keyword None = is_word keyword (codes "aci")
is_open_flag_of keyword (Some style) = is_word keyword (codes "self") && is_level style

abbrev pub is_open_flag : List ℕ → Bool
is_open_flag word = is_open_flag_of (keyword_of word) (style_after word)

-- how strong the connection is
abbrev pub is_strength : List ℕ → Bool
is_strength keyword = is_word keyword (codes "ssf") || (is_word keyword (codes "transport_ssf") || (is_word keyword (codes "tls_ssf") || is_word keyword (codes "sasl_ssf")))

-- the client, and the server's end of the connection
abbrev pub is_connection : List ℕ → Option (List ℕ) → Bool
is_connection keyword style =
    (is_word keyword (codes "peername") && is_none_or is_peer_style style)
    || (((is_word keyword (codes "sockname") || is_word keyword (codes "sockurl")) && is_none_or is_pattern_style style)
    || (is_word keyword (codes "domain") && is_none_or (is_modified is_domain_style) style))

-- names
abbrev pub is_open_identity : List ℕ → Option (List ℕ) → Bool
is_open_identity keyword style = is_word keyword (codes "dn") && is_some_and (is_modified is_requester_style) style

-- without a style
abbrev pub is_plain_keyword : List ℕ → Bool
is_plain_keyword keyword = is_strength keyword || is_word keyword (codes "aci")

abbrev pub is_strength_or_set : List ℕ → Option (List ℕ) → Bool
is_strength_or_set keyword style = cond (is_plain_keyword keyword) (not (is_some style)) (is_word keyword (codes "set") && is_none_or is_set_style style)

abbrev pub is_open_keyword : List ℕ → Option (List ℕ) → Bool
is_open_keyword keyword style = is_strength_or_set keyword style || (is_connection keyword style || is_open_identity keyword style)

-- `group[/CLASS[/ATTR]].expand`
abbrev pub is_expanded_group : List ℕ → Bool
is_expanded_group form = is_word (before_first (λ b. b == slash) (take (length form - 7) form)) (codes "group") && is_word (drop (length form - 7) form) (codes ".expand")

-- a name of a style that is decided is no such form
abbrev pub is_undecided_form : List ℕ → Bool
is_undecided_form form = is_open_keyword (keyword_of form) (style_after form) || is_expanded_group form

abbrev pub is_open_form : List ℕ → Bool
is_open_form form = not (is_some (style_of form)) && is_undecided_form form

abbrev pub is_open_with : List ℕ → Option (List ℕ) → Bool
is_open_with word None = is_open_flag word
is_open_with word (Some value) = is_open_form (form_of word)

-- a word of a <who> that isn't decided
abbrev pub is_open_who : List ℕ → Bool
is_open_who word = begins_with_word word (codes "dynacl/") || is_open_with word (after_first_separator equals_sign word)

-- ---- <what>

abbrev pub is_open_name : List ℕ → Bool
is_open_name form = is_word (keyword_of form) (codes "dn") && is_some_and is_name_style (style_after form)

-- `val[.STYLE]`
abbrev pub is_styled_value : List ℕ → Bool
is_styled_value form = is_word (keyword_of form) (codes "val") && is_none_or is_name_style (style_after form)

-- `val[/RULE][.STYLE]`
abbrev pub is_value_form : List ℕ → Bool
is_value_form form = begins_with_word form (codes "val/") || is_styled_value form

-- an item of `attrs=` that is a class: with `@`, or `!` for all but what it has; or the one that allows everything
abbrev pub is_class_sign : ℕ → Bool
is_class_sign b = b == 64 || b == exclamation_mark

abbrev pub has_class_sign : List ℕ → Bool
has_class_sign [] = false
has_class_sign (b ∷ bs) = is_class_sign b

abbrev pub names_class : List ℕ → Bool
names_class item = has_class_sign item || (is_word item (codes "extensibleObject") || is_word item (codes "1.3.6.1.4.1.1466.101.120.111"))

abbrev pub without_sign : List ℕ → List ℕ
without_sign [] = []
without_sign (b ∷ bs) = cond (is_class_sign b) bs (b ∷ bs)

-- ---- filters: each test asks whether an attribute is there, or has a value

abbrev pub is_equality : Operator → Bool
is_equality op.Equal = true
is_equality op.Approximate = false
is_equality op.AtLeast = false
is_equality op.AtMost = false

abbrev pub is_plain_value : Option (List ℕ) → Bool
is_plain_value None = false
is_plain_value (Some value) = asks_presence (Some value) || not (list_any (λ b. b == asterisk) (before_first (λ b. b == close_parenthesis) value))

-- the test that a text begins with
abbrev pub is_plain_test : List ℕ → Bool
is_plain_test text = is_equality (operator_of (before_first (λ b. b == equals_sign) text)) && is_plain_value (after_first_separator equals_sign text)

abbrev pub is_plain_after : ℕ → List ℕ → Bool
is_plain_after b after = cond (b == open_parenthesis && begins_test after) (is_plain_test after) true

abbrev pub are_plain_tests : List ℕ → Bool
are_plain_tests [] = true
are_plain_tests (b ∷ after) = is_plain_after b after && are_plain_tests after

abbrev pub has_plain_tests : List ℕ → Bool
has_plain_tests filter = are_plain_tests (in_parentheses filter)

-- ---- <access>

-- `self` before it, or `realself`: it is for the values that are the requester's name
abbrev pub self_edit : List ℕ → Option Edit
self_edit word =
    cond (begins_with_word word (codes "realself")) (edit_of (drop 8 word))
    (cond (begins_with_word word (codes "self")) (edit_of (drop 4 word)) None)
