use Rattle.dir_acl.proofs.Grammar.Exact.{read_is_spelled, read_is_not_deep, spelled_is_read, told_is_deep, deep_is_told}
use Rattle.dir_acl.proofs.laws.reading_is_the_grammar.Goals as goal

pub returns-clause-spelled : goal.returns-clause-spelled
returns-clause-spelled c = read_is_spelled

pub returns-clause-shallow : goal.returns-clause-shallow
returns-clause-shallow c = read_is_not_deep

pub returns-clause-read : goal.returns-clause-read
returns-clause-read c = spelled_is_read

pub returns-clause-deep : goal.returns-clause-deep
returns-clause-deep c = told_is_deep

pub returns-clause-told : goal.returns-clause-told
returns-clause-told c = deep_is_told
