use Rattle.phone_questions.proofs.letters.has_letters.Goals as goal

pub returns-then-is_viable : goal.returns-then-is_viable
returns-then-is_viable c = (
  λ t. (c.is_viable.ensures.0 c.if-is_viable.true, c.has_lettered_front.ensures.0 t),
  λ h. c.has_lettered_front.ensures.1 h.1,
)
