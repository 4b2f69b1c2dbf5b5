use Rattle.std.proofs.Common.{◌≡◌, ◌++◌, length, take, drop, reverse, sym, ap, ◌∙◌}
use Rattle.std.specs.Prelude.{◌==◌}
use Rattle.dir_acl.specs.Filters.Reading.{filter_from, in_test}
use Rattle.dir_acl.specs.Inside.Stack.{complete_of, stack_of, state_at}
use Rattle.dir_acl.proofs.Runs.{before_end, before_first_len, test_run}
use Rattle.dir_acl.proofs.filter.reading.with_run.Goals as goal

pub returns-in_ok-extend_from_slice-in-InTest-clause-ok : goal.returns-in_ok-extend_from_slice-in-InTest-clause-ok
returns-in_ok-extend_from_slice-in-InTest-clause-ok c rows =
    let text = c.args.text.now in
    let item = c.in-InTest.item.items in
    let progress = c.args.state.progress in
    let stack = stack_of progress in
    let end : length c.split_once.result.0.now ≡ before_end text = ap length c.split_once.ensures.before ∙ before_first_len (λ b. b == 41) text in
    let run : c.split_at.result.0.now ≡ take (before_end text) text = c.split_at.ensures.front ∙ ap (λ n. take n text) end in
    let after : c.split_at.result.1.now ≡ drop (before_end text) text = c.split_at.ensures.back ∙ ap (λ n. drop n text) end in
    let items : c.extend_from_slice.new.self.items ≡ item ++ take (before_end text) text = c.in_ok-extend_from_slice-in-InTest.ensures.items ∙ ap (λ bytes. item ++ bytes) run in
    ap (λ place. filter_from rows (state_at (complete_of progress) (reverse progress.stack.items) place) text) c.in-InTest.is
    ∙ test_run rows stack item text
    ∙ (λ i. filter_from rows (record { stack = stack; place = in_test (sym items i) }) (sym after i))
