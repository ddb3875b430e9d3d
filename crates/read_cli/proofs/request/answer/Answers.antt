use Rattle.read_cli.proofs.Told.{within}
use Rattle.read_cli.proofs.request.answer.Goals as goal

pub line_of-requires : goal.line_of-requires
line_of-requires c = within _ _ _ _ _ c.read_letter-reply.result _ c.read_letter-reply.ensures
