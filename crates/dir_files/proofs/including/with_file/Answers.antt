use Rattle.std.proofs.Common.{◌≡◌, ◌∙◌, ℕ, option_map, ap, rules, Vec, Global}
use Rattle.std.specs.Option.{option_copied}
use Rattle.dir_files.specs.Including.{files_of_level, text_size}
use Rattle.dir_files.proofs.IncludingCalls.{one_more, pushed, room_one_more, short_text}
use Rattle.dir_files.proofs.including.with_file.Goals as goal

pub returns-clause-room : goal.returns-clause-room
returns-clause-room g c =
    let same : option_copied c.as_deref.result ≡ option_map (λ (text : Vec ℕ Global). text.items) c.in_ok-text.text = search rules in
    room_one_more (files_of_level c.args.level) _ _ c.args.level.room c.text_size.result (pushed _ _ _ _ c.in_ok-push-2.ensures.items c.in_ok-file_with.ensures) (c.text_size.ensures ∙ ap text_size same)
    (short_text c.args.level.room c.in_ok-text.text c.in_ok-text.ensures.short)

pub returns-clause-calls : goal.returns-clause-calls
returns-clause-calls g c =
    one_more (g.F.FileSystem.disk c.args.files.now) (g.F.FileSystem.disk c.text_at.new.files) (files_of_level c.args.level) _ _ (pushed _ _ _ _ c.in_ok-push-2.ensures.items c.in_ok-file_with.ensures) c.in_ok-text.ensures.calls
