use Rattle.phone_c_questions.proofs.OneOriginals
use Rattle.phone_c_questions.proofs.dialling_laws.one_original.Goals as goal

pub returns : goal.returns
returns c db = OneOriginals.one_original db
