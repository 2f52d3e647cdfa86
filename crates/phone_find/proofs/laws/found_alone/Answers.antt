use Rattle.phone_find.proofs.FoundAlone.{found_alone}
use Rattle.phone_find.proofs.laws.found_alone.Goals as goal

pub returns : goal.returns
returns c rules db hint l before piece after n all among short is found =
    found_alone rules db hint l before piece after n among short is all found
