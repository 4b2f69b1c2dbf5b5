-- Small facts that several proofs share.
use Rattle.std.proofs.Common.{◌≡◌, Bool, true, false, not, ◌&&◌, List, ◌∷◌, Option, None, Some, Result, Ok, IfSome, refl, sym, true≢false}
use Rattle.dir_ldif.specs.declared.faults.RecordFault.{RecordFault}
use Rattle.dir_ldif.specs.declared.faults.StreamFault.{StreamFault}
use Rattle.dir_ldif.specs.declared.records.Record.{Record}
use Rattle.dir_ldif.specs.RoundTrip.{without_line}
use Rattle.dir_ldif.specs.Records.{Answer, Found}

pub left : (a b : Bool) → (a && b) ≡ true → a ≡ true
left true b h = refl
left false b h = h

pub right : (a b : Bool) → (a && b) ≡ true → b ≡ true
right true b h = h
right false b h = absurd (true≢false (sym h))

pub not_true : (b : Bool) → not b ≡ true → b ≡ false
not_true true h = sym h
not_true false h = refl

pub known : {A : Type 0} {P Q : A → Type 0} (o : Option A) → ((x : A) → P x → Q x) → IfSome o P → IfSome o Q
known None h p = tt
known (Some x) h p = h x p

-- the first of the answers on records, and the others
pub heads : (a : Answer) (r : Record) (later rest : List (Result (Result Record RecordFault) StreamFault)) → without_line a ∷ later ≡ Ok (Ok r) ∷ rest → (without_line a ≡ Ok (Ok r)) × (later ≡ rest)
heads a r later rest same = (cc, cc)

pub one_found : (found : Found) (r : Record) → without_line (Ok found) ≡ Ok (Ok r) → found.1 ≡ Ok r
one_found found r same = cc
