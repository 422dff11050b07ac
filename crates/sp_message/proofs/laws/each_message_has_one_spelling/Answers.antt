use Rattle.sp_message.proofs.OneSpelling.{no_beginning}
use Rattle.sp_message.proofs.laws.each_message_has_one_spelling.Goals as goal

pub returns-clause-beginning : goal.returns-clause-beginning
returns-clause-beginning c = no_beginning
