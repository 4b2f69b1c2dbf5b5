use Rattle.std.proofs.Common.{◌≡◌, rules, None, Some}
use Rattle.dir_tools.specs.AccessReport.{access_terms, named_key, requester_of, words_of}
use Rattle.dir_tools.specs.Inside.Asking.{IsPartFault}
use Rattle.dir_tools.proofs.AccessParts.{named_base, requester_fault, words_fault}
use Rattle.dir_tools.proofs.acl.parts.read_parts.Goals as goal

pub returns-in-Err : goal.returns-in-Err
returns-in-Err c =
    let rows = c.args.schema.now in
    let question = c.args.question.now in
    let named : named_key rows question.base ≡ Some (c.in-Some.field-0-0, c.in-Some.key) = search rules in
    let asked : requester_of rows question.authc ≡ Some c.in-Some-2.requester = search rules in
    let bad : IsPartFault c.in-Err.fault (words_of rows question.words) = search rules in
    words_fault (access_terms rows question) c.in-Some.key c.in-Some-2.requester c.in-Err.fault (named_base rows question.base c.in-Some.field-0-0 c.in-Some.key named) asked bad

pub returns-in-None-2 : goal.returns-in-None-2
returns-in-None-2 c =
    let rows = c.args.schema.now in
    let question = c.args.question.now in
    let named : named_key rows question.base ≡ Some (c.in-Some.field-0-0, c.in-Some.key) = search rules in
    let none : requester_of rows question.authc ≡ None = search rules in
    requester_fault (access_terms rows question) c.in-Some.key (named_base rows question.base c.in-Some.field-0-0 c.in-Some.key named) none
