use Rattle.std.proofs.Common.{◌≡◌, ℕ, ◌≤◌, Bool, true, false, cond, nat_lt, List, length, Result, Ok, Err, refl, arith}
use Rattle.std.proofs.lemmas.Bool.Decides.{nat_tests}
use Rattle.dir_conf_text.specs.Text.{config_lines}
use Rattle.dir_conf_text.specs.declared.text.ConfigLine.{ConfigLine}
use Rattle.dir_acl.specs.Config.{bounded_lines}
use Rattle.dir_acl.specs.declared.fault.ConfigFault.{ConfigFault}
use Rattle.dir_acl.specs.declared.fault.ConfigCause.TheVariants.{ConfigTooLong}
use Rattle.dir_acl.proofs.deciding.fault_argument.Goals as goal

-- a text that has its lines isn't too long
bounded : (text : List ℕ) (lines : List ConfigLine) → bounded_lines text ≡ Ok lines → length text ≤ 16777216
bounded text lines e = by (nat_lt 16777216 (length text)) refl e
  where
    long : Result (List ConfigLine) ConfigFault
    long = Err (record { line = 0; cause = ConfigTooLong })

    by : (b : Bool) → nat_lt 16777216 (length text) ≡ b → cond b long (Ok (config_lines text)) ≡ Ok lines → length text ≤ 16777216
    by true w e = absurd (cc)
    by false w e = grind (arith, nat_tests)

pub word_in-requires : goal.word_in-requires
word_in-requires c = bounded c.args.text.now c.args.lines.now c.requires
