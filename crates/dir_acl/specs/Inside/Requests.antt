-- A request as the definition of decisions has it.
use Rattle.std.specs.Option.{option_copied}
use Rattle.dir_acl.specs.declared.access.Request.{Request}
use Rattle.dir_acl.specs.Decision.{Question}
use Rattle.dir_acl.specs.Inside.Fakes.{attributes_of}

abbrev pub question_of : Request → Question
question_of request = record { requester = request.requester; target = request.target; attributes = attributes_of (option_copied request.entry); asked = request.asked }
