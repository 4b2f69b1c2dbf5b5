-- The lines of a file, one after the other, with those that they include.
use Rattle.std.proofs.Common.{◌≡◌, ℕ, zero, suc, ◌-◌, ◌<◌, List, ◌∷◌, None, Some, Result, Ok, Err, refl, ap, sym, ◌∙◌, arith}
use Rattle.dir_names.specs.Results.{and_then}
use Rattle.dir_conf.specs.declared.fault.ConfFault.{ConfFault}
use Rattle.dir_conf.specs.SlapdConf.Files.{File, Found, after_each, after_file, after_line, follow, included, into_file, with_line}

pub not_followed : (files : List File) (below file : ℕ) (line : ℕ × List ℕ) (found : Found) → included files below line.1 ≡ None → after_line files below file line found ≡ Ok (with_line file line found)
unfolding after_line
not_followed files zero file line found e = refl
not_followed files (suc below) file line found e = ap (follow (into_file (after_line files below)) file line found) e

less_one : (n : ℕ) → suc n - 1 ≡ n
less_one n = grind arith

pub followed : (files : List File) (below file : ℕ) (line : ℕ × List ℕ) (found : Found) (place : ℕ) (text : List ℕ) → included files below line.1 ≡ Some (place, text) → after_line files below file line found ≡ after_file files (below - 1) (place, text) found
unfolding after_line
followed files zero file line found place text e = absurd (cc)
followed files (suc below) file line found place text e =
    ap (follow (into_file (after_line files below)) file line found) e ∙ ap (λ n. after_file files n (place, text) found) (sym (less_one below))

pub not_below_none : (files : List File) (below : ℕ) (line : List ℕ) (file : ℕ × List ℕ) → included files below line ≡ Some file → 0 < below
not_below_none files zero line file e = absurd (cc)
not_below_none files (suc below) line file e = grind arith

pub one_step : {A S : Type 0} (step : A → S → Result S ConfFault) (x : A) (xs : List A) (state next : S) → step x state ≡ Ok next → after_each step (x ∷ xs) state ≡ after_each step xs next
one_step step x xs state next e = ap (λ r. and_then r (after_each step xs)) e

pub step_fails : {A S : Type 0} (step : A → S → Result S ConfFault) (x : A) (xs : List A) (state : S) (why : ConfFault) → step x state ≡ Err why → after_each step (x ∷ xs) state ≡ Err why
step_fails step x xs state why e = ap (λ r. and_then r (after_each step xs)) e
