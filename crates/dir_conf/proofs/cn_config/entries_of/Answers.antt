use Rattle.std.proofs.Common.{List, map, ap, subst, sym, ◌∙◌, Vec, Global}
use Rattle.dir_ldif.specs.declared.reader.unfolder.Line.{Line}
use Rattle.dir_conf.specs.declared.cn_config.records.Attribute.{Attribute}
use Rattle.dir_conf.specs.CnConfig.{entries_of, entry_of}
use Rattle.dir_conf.specs.CnConfig.Records.{gather}
use Rattle.dir_conf.specs.Outcome.{GivesConf, IsConfFaultOf}
use Rattle.dir_conf.proofs.WholeTexts.{entries_end, entries_read}
use Rattle.dir_conf.proofs.cn_config.entries_of.Goals as goal

pub returns-in-Ok : goal.returns-in-Ok
returns-in-Ok c =
    let view : Vec (Vec Attribute Global) Global → List (List Attribute) = λ found. map (λ entry. entry.items) found.items in
    let same = ap (λ (blocks : List (Vec Line Global)). gather entry_of (map (λ block. block.items) blocks)) c.as_slice.ensures.value in
    let read = entries_read c.args.text.now (map (λ block. block.items) c.in-Ok.blocks.items) c.in-Ok.ensures.ok in
    subst (GivesConf view c.entries_in.result) (same ∙ sym read) c.entries_in.ensures

pub returns-in-Err : goal.returns-in-Err
returns-in-Err c =
    let text = c.args.text.now in
    subst (λ f. IsConfFaultOf f (entries_of text)) (sym c.ended.ensures) (entries_end text c.requires c.in-Err.fault c.in-Err.ensures.err)
