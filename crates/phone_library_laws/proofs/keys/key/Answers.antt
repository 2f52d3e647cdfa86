use Rattle.phone_library_laws.proofs.ReadByEither.{read_key, same_text}
use Rattle.phone_library_laws.proofs.keys.key.Goals as goal

pub returns : goal.returns
returns c db a b free first second = (read_key db a b free first second, same_text a b)
