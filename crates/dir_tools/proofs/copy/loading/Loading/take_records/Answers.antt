use Rattle.std.proofs.Common.{subst, sym}
use Rattle.dir_ldif.specs.Reader.{answers_to_come, source_of}
use Rattle.dir_tools.specs.CompleteRecords.{IsReaderFault}
use Rattle.dir_tools.specs.Inside.Loading.{StopsLoading}
use Rattle.dir_tools.proofs.CopyFaults.{loads_blamed, loads_settled, stops_at}
use Rattle.dir_tools.proofs.CopyLemmas.{all_loaded, loads_out, order_out, suffix_out}
use Rattle.dir_tools.proofs.copy.loading.Loading.take_records.Goals as goal

pub returns-in-AtEnd-clause-suffix : goal.returns-in-AtEnd-clause-suffix
returns-in-AtEnd-clause-suffix g c =
    let all = all_loaded g.D.Directory.state c.args.schema.now g.S.Source.left g.S.Source.failures c.take_records.result c.args.self.now c.take_records.new.taker c.args.records.now c.take_records.new.records c.in-AtEnd.is c.take_records.ensures.ends in
    suffix_out g.D.Directory.state c.args.schema.now all.0 c.args.self.now c.take_records.new.taker all.1

pub returns-in-AtEnd-clause-order : goal.returns-in-AtEnd-clause-order
returns-in-AtEnd-clause-order g c =
    let all = all_loaded g.D.Directory.state c.args.schema.now g.S.Source.left g.S.Source.failures c.take_records.result c.args.self.now c.take_records.new.taker c.args.records.now c.take_records.new.records c.in-AtEnd.is c.take_records.ensures.ends in
    order_out g.D.Directory.state c.args.schema.now all.0 c.args.self.now c.take_records.new.taker all.1

pub returns-in-AtEnd-clause-reads : goal.returns-in-AtEnd-clause-reads
returns-in-AtEnd-clause-reads g c =
    let all = all_loaded g.D.Directory.state c.args.schema.now g.S.Source.left g.S.Source.failures c.take_records.result c.args.self.now c.take_records.new.taker c.args.records.now c.take_records.new.records c.in-AtEnd.is c.take_records.ensures.ends in
    loads_out g.D.Directory.state c.args.schema.now all.0 (answers_to_come g.S.Source.left c.args.records.now) c.args.self.now c.take_records.new.taker all.1 all.2

pub returns-in-TextFault-clause-blamed : goal.returns-in-TextFault-clause-blamed
returns-in-TextFault-clause-blamed g c =
    let ends = c.in-TextFault.ensures.ends in
    subst (StopsLoading g.D.Directory.state c.args.schema.now (answers_to_come g.S.Source.left c.args.records.now) (g.S.Source.failures (source_of c.args.records.now)) (g.S.Source.failures (source_of c.take_records.new.records)) c.args.self.now)
    (sym c.ended.ensures)
    (loads_blamed g.D.Directory.state c.args.schema.now g.S.Source.left g.S.Source.failures ends.0 c.args.self.now c.take_records.new.taker c.args.records.now c.take_records.new.records c.in-TextFault.fault ends.1 ends.2)

pub returns-in-TextFault-clause-settled : goal.returns-in-TextFault-clause-settled
returns-in-TextFault-clause-settled g c is =
    let ends = c.in-TextFault.ensures.ends in
    loads_settled g.D.Directory.state c.args.schema.now g.S.Source.left g.S.Source.failures ends.0 c.args.self.now c.take_records.new.taker c.args.records.now c.take_records.new.records c.in-TextFault.fault ends.2
    (subst IsReaderFault c.ended.ensures is)

pub returns-in-TakeFault-clause-blamed : goal.returns-in-TakeFault-clause-blamed
returns-in-TakeFault-clause-blamed g c =
    stops_at g.D.Directory.state c.args.schema.now (answers_to_come g.S.Source.left c.args.records.now) c.args.self.now _ _ c.in-TakeFault.fault c.take_records.new.taker c.in-TakeFault.ensures.ends
