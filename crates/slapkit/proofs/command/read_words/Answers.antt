use Rattle.std.proofs.Common.{◌≡◌, codes, false, is_some, rules, true}
use Rattle.clap.specs.Matches.{found_of}
use Rattle.slapkit.proofs.CommandLineLemmas.{names_tool, no_text, text_there}
use Rattle.slapkit.proofs.command.read_words.Goals as goal

pub returns-in-Some : goal.returns-in-Some
returns-in-Some g c =
    let named = names_tool _ _ c.in_ok-matches.matches c.in-Some.matches.now (codes "slapmodify") c.in_ok-program.ensures c.in_ok-matches.ensures.ok.2
    (c.in-Some.ensures.found.0 (search rules)) c.in-Some.ensures.rows in
    (found_of c.in-Some.matches.now, (named, c.modify_words.ensures.words, c.modify_words.ensures.last))

pub returns-in-Some-subcommand_matches : goal.returns-in-Some-subcommand_matches
returns-in-Some-subcommand_matches g c =
    let used = c.in-Some-subcommand_matches in
    let named = names_tool _ _ c.in_ok-matches.matches used.matches.now (codes "slapconf") c.in_ok-program.ensures c.in_ok-matches.ensures.ok.2
    (used.ensures.found.0 (search rules)) used.ensures.rows in
    (found_of used.matches.now, (named, c.conf_words.ensures))

pub returns-then-is_some : goal.returns-then-is_some
returns-then-is_some g c =
    let used = c.in-Some-subcommand_matches-2 in
    let named = names_tool _ _ c.in_ok-matches.matches used.matches.now (codes "slapacl") c.in_ok-program.ensures c.in_ok-matches.ensures.ok.2
    (used.ensures.found.0 (search rules)) used.ensures.rows in
    let there : is_some c.get_str.result ≡ true = search rules in
    (found_of used.matches.now, (named, text_there _ c.get_str.result _ c.get_str.ensures there, c.question_words.ensures))

pub returns : goal.returns
returns g c =
    let used = c.in-Some-subcommand_matches-2 in
    let named = names_tool _ _ c.in_ok-matches.matches used.matches.now (codes "slapacl") c.in_ok-program.ensures c.in_ok-matches.ensures.ok.2
    (used.ensures.found.0 (search rules)) used.ensures.rows in
    let missing : is_some c.get_str.result ≡ false = search rules in
    (found_of used.matches.now, (named, no_text _ c.get_str.result _ c.get_str.ensures missing, c.in_ok-access_words.ensures))
