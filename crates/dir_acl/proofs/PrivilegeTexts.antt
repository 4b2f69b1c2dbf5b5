-- The text of each set of privileges reads back as this set: all 256 are tried.
use Rattle.std.proofs.Common.{◌≡◌, refl, sym, ap, subst, Bool, true, false, ◌&&◌, Option, Some, None}
use Rattle.dir_acl.specs.declared.privileges.Privileges.{Privileges}
use Rattle.dir_acl.specs.Config.Permissions.{set_with_text}
use Rattle.dir_acl.specs.Privileges.{privileges_text}

set_of : Bool → Bool → Bool → Bool → Bool → Bool → Bool → Bool → Privileges
set_of m a z r s c x d = record { manage = m; add = a; delete = z; read = r; search = s; compare = c; auth = x; disclose = d }

same_bool : Bool → Bool → Bool
same_bool true b = b
same_bool false true = false
same_bool false false = true

same_set : Privileges → Privileges → Bool
same_set p q =
    same_bool p.manage q.manage && (same_bool p.add q.add && (same_bool p.delete q.delete && (same_bool p.read q.read
    && (same_bool p.search q.search && (same_bool p.compare q.compare && (same_bool p.auth q.auth && same_bool p.disclose q.disclose))))))

is_read_back : Option Privileges → Privileges → Bool
is_read_back None q = false
is_read_back (Some p) q = same_set p q

both : (Bool → Bool) → Bool
both f = f true && f false

first_of : (x y : Bool) → (x && y) ≡ true → x ≡ true
first_of true y e = refl
first_of false y e = e

second_of : (x y : Bool) → (x && y) ≡ true → y ≡ true
second_of true y e = e
second_of false y e = cc

both_true : (f : Bool → Bool) → both f ≡ true → (b : Bool) → f b ≡ true
unfolding both
both_true f e true = first_of (f true) (f false) e
both_true f e false = second_of (f true) (f false) e

equal_bool : (x y : Bool) → same_bool x y ≡ true → x ≡ y
unfolding same_bool
equal_bool true y e = sym e
equal_bool false true e = cc
equal_bool false false e = refl

-- sets with the same parts
same_parts : (p q : Privileges) → p.manage ≡ q.manage → p.add ≡ q.add → p.delete ≡ q.delete → p.read ≡ q.read → p.search ≡ q.search → p.compare ≡ q.compare → p.auth ≡ q.auth → p.disclose ≡ q.disclose → p ≡ q
unfolding set_of
same_parts p q m a z r s c x d =
    let same : set_of p.manage p.add p.delete p.read p.search p.compare p.auth p.disclose ≡ set_of q.manage q.add q.delete q.read q.search q.compare q.auth q.disclose =
    subst (λ t. set_of p.manage p.add p.delete p.read p.search p.compare p.auth p.disclose ≡ set_of q.manage q.add q.delete q.read q.search q.compare q.auth t) d
    (subst (λ t. set_of p.manage p.add p.delete p.read p.search p.compare p.auth p.disclose ≡ set_of q.manage q.add q.delete q.read q.search q.compare t p.disclose) x
    (subst (λ t. set_of p.manage p.add p.delete p.read p.search p.compare p.auth p.disclose ≡ set_of q.manage q.add q.delete q.read q.search t p.auth p.disclose) c
    (subst (λ t. set_of p.manage p.add p.delete p.read p.search p.compare p.auth p.disclose ≡ set_of q.manage q.add q.delete q.read t p.compare p.auth p.disclose) s
    (subst (λ t. set_of p.manage p.add p.delete p.read p.search p.compare p.auth p.disclose ≡ set_of q.manage q.add q.delete t p.search p.compare p.auth p.disclose) r
    (subst (λ t. set_of p.manage p.add p.delete p.read p.search p.compare p.auth p.disclose ≡ set_of q.manage q.add t p.read p.search p.compare p.auth p.disclose) z
    (subst (λ t. set_of p.manage p.add p.delete p.read p.search p.compare p.auth p.disclose ≡ set_of q.manage t p.delete p.read p.search p.compare p.auth p.disclose) a
    (ap (λ t. set_of t p.add p.delete p.read p.search p.compare p.auth p.disclose) m))))))) in same

equal_set : (p q : Privileges) → same_set p q ≡ true → p ≡ q
unfolding same_set
equal_set p q e =
    let m = first_of (same_bool p.manage q.manage) _ e in
    let e1 = second_of (same_bool p.manage q.manage) _ e in
    let a = first_of (same_bool p.add q.add) _ e1 in
    let e2 = second_of (same_bool p.add q.add) _ e1 in
    let z = first_of (same_bool p.delete q.delete) _ e2 in
    let e3 = second_of (same_bool p.delete q.delete) _ e2 in
    let r = first_of (same_bool p.read q.read) _ e3 in
    let e4 = second_of (same_bool p.read q.read) _ e3 in
    let s = first_of (same_bool p.search q.search) _ e4 in
    let e5 = second_of (same_bool p.search q.search) _ e4 in
    let c = first_of (same_bool p.compare q.compare) _ e5 in
    let e6 = second_of (same_bool p.compare q.compare) _ e5 in
    let x = first_of (same_bool p.auth q.auth) _ e6 in
    let d = second_of (same_bool p.auth q.auth) _ e6 in
    let m' = equal_bool p.manage q.manage m in
    let a' = equal_bool p.add q.add a in
    let z' = equal_bool p.delete q.delete z in
    let r' = equal_bool p.read q.read r in
    let s' = equal_bool p.search q.search s in
    let c' = equal_bool p.compare q.compare c in
    let x' = equal_bool p.auth q.auth x in
    let d' = equal_bool p.disclose q.disclose d in
    same_parts p q m' a' z' r' s' c' x' d'

-- whether the text of this set reads back
reads_back : Bool → Bool → Bool → Bool → Bool → Bool → Bool → Bool → Bool
reads_back m a z r s c x d = is_read_back (set_with_text (privileges_text (set_of m a z r s c x d))) (set_of m a z r s c x d)

all_read_back : both (λ m. both (λ a. both (λ z. both (λ r. both (λ s. both (λ c. both (λ x. both (λ d. reads_back m a z r s c x d)))))))) ≡ true
unfolding both reads_back set_of same_set same_bool is_read_back
all_read_back = refl

each_reads_back : (m a z r s c x d : Bool) → reads_back m a z r s c x d ≡ true
unfolding both
each_reads_back m a z r s c x d =
    both_true (λ d. reads_back m a z r s c x d)
    (both_true (λ x. both (λ d. reads_back m a z r s c x d))
    (both_true (λ c. both (λ x. both (λ d. reads_back m a z r s c x d)))
    (both_true (λ s. both (λ c. both (λ x. both (λ d. reads_back m a z r s c x d))))
    (both_true (λ r. both (λ s. both (λ c. both (λ x. both (λ d. reads_back m a z r s c x d)))))
    (both_true (λ z. both (λ r. both (λ s. both (λ c. both (λ x. both (λ d. reads_back m a z r s c x d))))))
    (both_true (λ a. both (λ z. both (λ r. both (λ s. both (λ c. both (λ x. both (λ d. reads_back m a z r s c x d)))))))
    (both_true (λ m. both (λ a. both (λ z. both (λ r. both (λ s. both (λ c. both (λ x. both (λ d. reads_back m a z r s c x d)))))))) all_read_back m) a) z) r) s) c) x) d

found_again : (found : Option Privileges) (set : Privileges) → is_read_back found set ≡ true → found ≡ Some set
unfolding is_read_back
found_again None set e = cc
found_again (Some p) set e = ap Some (equal_set p set e)

pub text_reads_back : (set : Privileges) → set_with_text (privileges_text set) ≡ Some set
unfolding reads_back set_of
text_reads_back set =
    found_again (set_with_text (privileges_text set)) set
    (each_reads_back set.manage set.add set.delete set.read set.search set.compare set.auth set.disclose)
