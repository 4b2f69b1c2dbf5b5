-- The words of a <who> (slapd.access(5), "THE <WHO> FIELD").
use Rattle.std.specs.Prelude.{ℕ, ◌-◌, cond, List, [], ◌∷◌, length, drop, take, codes, Option, Some, None, Result, Ok}
use Rattle.dir_names.specs.Ascii.{equals_sign}
use Rattle.dir_names.specs.Cut.{after_first_separator, parts_at}
use Rattle.dir_names.specs.Results.{and_then}
use Rattle.dir_names.specs.declared.schema.TypeRow.{TypeRow}
use Rattle.dir_acl.specs.declared.access.Style.{Style}
use Rattle.dir_acl.specs.declared.access.Who.{Who}
use Rattle.dir_acl.specs.declared.access.Who.TheVariants as who
use Rattle.dir_acl.specs.declared.fault.ConfigCause.{ConfigCause}
use Rattle.dir_conf_text.specs.Keywords.{is_word}
use Rattle.dir_acl.specs.Config.Names.{attr_at, class_key_at, form_of, name_at, names_attr_at, style_of}

abbrev pub slash : ℕ
slash = 47

-- ---- `group[/CLASS[/ATTR]][.exact]=NAME`

abbrev pub without_exact : List ℕ → List ℕ
without_exact form = cond (is_word (drop (length form - 6) form) (codes ".exact")) (take (length form - 6) form) form

-- the group of this name, class and attribute of members
abbrev pub group_at : List TypeRow → List ℕ → List ℕ → List ℕ → Result (Option Who) ConfigCause
group_at rows class member text =
    and_then (attr_at rows (codes "objectClass")) (λ class_attr.
    and_then (class_key_at rows class_attr class) (λ class_key.
    and_then (names_attr_at rows member) (λ attr.
    and_then (name_at rows text) (λ name. Ok (Some (who.Group name class_attr class_key attr))))))

-- the parts after `group`: the class is `groupOfNames` by default, and the attribute `member`
abbrev pub group_with : List TypeRow → List (List ℕ) → List ℕ → Result (Option Who) ConfigCause
group_with rows [] text = group_at rows (codes "groupOfNames") (codes "member") text
group_with rows (class ∷ []) text = group_at rows class (codes "member") text
group_with rows (class ∷ member ∷ []) text = group_at rows class member text
group_with rows (class ∷ member ∷ more ∷ parts) text = Ok None

abbrev pub group_of_parts : List TypeRow → List (List ℕ) → List ℕ → Result (Option Who) ConfigCause
group_of_parts rows [] text = Ok None
group_of_parts rows (first ∷ parts) text = cond (is_word first (codes "group")) (group_with rows parts text) (Ok None)

abbrev pub group_of : List TypeRow → List ℕ → List ℕ → Result (Option Who) ConfigCause
group_of rows form text = group_of_parts rows (parts_at slash (without_exact form)) text

-- ---- the parts of a <who>

abbrev pub who_without_style : List TypeRow → List ℕ → List ℕ → Result (Option Who) ConfigCause
who_without_style rows form text =
    cond (is_word form (codes "dnattr")) (and_then (names_attr_at rows text) (λ attr. Ok (Some (who.DnAttr attr)))) (group_of rows form text)

abbrev pub who_of_style : List TypeRow → Option Style → List ℕ → List ℕ → Result (Option Who) ConfigCause
who_of_style rows None form text = who_without_style rows form text
who_of_style rows (Some style) form text = and_then (name_at rows text) (λ name. Ok (Some (who.Dn style name)))

abbrev pub who_with_value : List TypeRow → List ℕ → Option (List ℕ) → Result (Option Who) ConfigCause
who_with_value rows form None = Ok None
who_with_value rows form (Some text) = who_of_style rows (style_of form) form text

-- the part of a <who> that a word is, if it is one
abbrev pub who_of : List TypeRow → List ℕ → Result (Option Who) ConfigCause
who_of rows word =
    cond (is_word word (codes "*")) (Ok (Some who.Anyone))
    (cond (is_word word (codes "anonymous")) (Ok (Some who.Anonymous))
    (cond (is_word word (codes "users")) (Ok (Some who.Users))
    (cond (is_word word (codes "self")) (Ok (Some who.Myself)) (who_with_value rows (form_of word) (after_first_separator equals_sign word)))))
