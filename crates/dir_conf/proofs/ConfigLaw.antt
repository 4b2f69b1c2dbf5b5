-- The flat configuration of a site is read as what it says; and so is that which cn=config comes to.
use Rattle.std.proofs.Common.{◌≡◌, ℕ, ◌≤◌, Bool, true, false, cond, List, ◌++◌, length, Result, Ok, Err, refl, sym, ap, subst, true≢false, arith}
use Rattle.std.specs.List.{list_all}
use Rattle.std.proofs.lemmas.Bool.Decides.{nat_tests}
use Rattle.dir_names.specs.Keys.{DnKeys}
use Rattle.dir_names.specs.Results.{and_then}
use Rattle.dir_names.specs.declared.schema.TypeRow.{TypeRow}
use Rattle.dir_conf.specs.declared.fault.ConfFault.{ConfFault}
use Rattle.dir_conf.specs.declared.fault.ConfFault.TheVariants.{TooLong}
use Rattle.dir_conf.specs.declared.site.Tally.{Tally}
use Rattle.dir_conf.specs.CnConfig.{entries_of, site_of, site_of_text}
use Rattle.dir_conf.specs.Flat.{Content, flat_of_site, is_long, site_text, tally_of}
use Rattle.dir_conf.specs.Laws.{FlatConfigsAreRead, ReadsSite, has_one_line, is_no_end}
use Rattle.dir_conf.specs.OwnTypes.{own_types}
use Rattle.dir_conf.proofs.FlatLaw.{flat_reads}
use Rattle.dir_conf.proofs.FlatSites.{IsFlatSite, OfValue, joined_all, site_flat, then_value}

not_long : (text : List ℕ) → is_long text ≡ false → length text ≤ 16777216
not_long text e = grind (arith, nat_tests)

-- ---- results

is_ok : {A E : Type 0} → Result A E → Bool
is_ok (Ok flat) = true
is_ok (Err why) = false

pub no_value : {A E : Type 0} (why : E) (value : A) → ◌≡◌ {A = Result A E} (Err why) (Ok value) → ⊥
unfolding is_ok
no_value why value e = absurd (true≢false (sym (ap is_ok e)))

value_or : {A E : Type 0} → A → Result A E → A
value_or other (Ok value) = value
value_or other (Err why) = other

pub same_value : {A E : Type 0} (x y : A) → ◌≡◌ {A = Result A E} (Ok x) (Ok y) → x ≡ y
unfolding value_or
same_value x y e = ap (value_or x) e

-- ---- one site

own_no_ends : list_all (list_all is_no_end) own_types ≡ true
unfolding own_types
own_no_ends = refl

read_site : (site : Content) → IsFlatSite site → is_long (site_text site) ≡ false → ReadsSite site (site_text site) (tally_of site)
read_site site h short = record {
  reads = flat_reads (own_types ++ site.types) (site.own ++ site.frontend) (record {
    defined = joined_all (list_all is_no_end) own_types site.types own_no_ends h.0;
    directed = joined_all has_one_line site.own site.frontend h.1 h.2;
    bound = not_long (site_text site) short;
  });
  counted = refl;
}

pub site_reads : (site : Content) (flat : List ℕ) (tally : Tally) → IsFlatSite site → flat_of_site site ≡ Ok (flat, tally) → ReadsSite site flat tally
site_reads site flat tally h = by (is_long (site_text site)) refl
  where
    by : (t : Bool) → is_long (site_text site) ≡ t → cond {A = Result (List ℕ × Tally) ConfFault} t (Err TooLong) (Ok (site_text site, tally_of site)) ≡ Ok (flat, tally) → ReadsSite site flat tally
    by true long e = absurd (no_value TooLong (flat, tally) e)
    by false short e = subst (λ (p : List ℕ × Tally). ReadsSite site p.0 p.1) (same_value (site_text site, tally_of site) (flat, tally) e) (read_site site h short)

-- ---- cn=config

text_flat : (rows : List TypeRow) (wanted : DnKeys) (text : List ℕ) → OfValue IsFlatSite (site_of_text rows wanted text)
text_flat rows wanted text = then_value IsFlatSite (entries_of text) (site_of rows wanted) (λ entries. site_flat rows wanted entries)

pub configs_read : FlatConfigsAreRead
configs_read rows wanted text flat tally = by (is_long text) (site_of_text rows wanted text) refl (text_flat rows wanted text)
  where
    by : (t : Bool) (r : Result Content ConfFault) → site_of_text rows wanted text ≡ r → OfValue IsFlatSite r → cond t (Err TooLong) (and_then r flat_of_site) ≡ Ok (flat, tally)
        → (site : Content) × (site_of_text rows wanted text ≡ Ok site) × ReadsSite site flat tally
    by true r site h e = absurd (no_value TooLong (flat, tally) e)
    by false (Ok site) said h e = (site, said, site_reads site flat tally h e)
    by false (Err why) said h e = absurd (no_value why (flat, tally) e)
