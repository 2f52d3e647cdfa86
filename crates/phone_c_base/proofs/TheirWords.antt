-- The words of values are theirs.
use Rattle.std.proofs.Common.{◌≡◌, Some, refl}
use Rattle.phone_values.specs.Kinds.{kind_name}
use Rattle.phone_values.specs.Refusals.{refusal_number, refusal_words}
use Rattle.phone_values.specs.declared.country.Source.TheVariants as source
use Rattle.phone_values.specs.declared.country.Source.{Source}
use Rattle.phone_values.specs.declared.error.ParseError.TheVariants as error
use Rattle.phone_values.specs.declared.error.ParseError.{ParseError}
use Rattle.phone_values.specs.declared.kind.«Type».TheVariants as kind
use Rattle.phone_values.specs.declared.kind.«Type».{«Type»}
use Rattle.phone_short.specs.Costs.{cost_word}
use Rattle.phone_short.specs.declared.rates.Cost.TheVariants as cost
use Rattle.phone_short.specs.declared.rates.Cost.{Cost}
use Rattle.phone_engine.specs.declared.possibilities.Possibility.TheVariants as possibility
use Rattle.phone_engine.specs.declared.possibilities.Possibility.{Possibility}
use Rattle.phone_engine.specs.declared.sameness.Sameness.TheVariants as sameness
use Rattle.phone_engine.specs.declared.sameness.Sameness.{Sameness}
use Rattle.phone_engine.specs.Words.{source_word}
use Rattle.phone_c_base.specs.Answers.{kind_number}
use Rattle.phone_c_base.specs.Comparisons.{sameness_number}
use Rattle.phone_c_base.specs.Numbers.{source_number}
use Rattle.phone_c_base.specs.Possibilities.{possibility_number}
use Rattle.phone_c_base.specs.ShortNumbers.{cost_number}
use Rattle.phone_c_base.specs.Words.{possibility_word, sameness_word, status_words, word_of}

pub kind_words : (k : «Type») → word_of 0 (kind_number k) ≡ Some (kind_name k)
unfolding word_of
kind_words kind.FixedLine = refl
kind_words kind.Mobile = refl
kind_words kind.FixedLineOrMobile = refl
kind_words kind.TollFree = refl
kind_words kind.PremiumRate = refl
kind_words kind.SharedCost = refl
kind_words kind.PersonalNumber = refl
kind_words kind.Voip = refl
kind_words kind.Pager = refl
kind_words kind.Uan = refl
kind_words kind.Emergency = refl
kind_words kind.Voicemail = refl
kind_words kind.ShortCode = refl
kind_words kind.StandardRate = refl
kind_words kind.Carrier = refl
kind_words kind.NoInternational = refl
kind_words kind.Unknown = refl

pub source_words : (s : Source) → word_of 1 (source_number s) ≡ Some (source_word s)
unfolding word_of
source_words source.Plus = refl
source_words source.Idd = refl
source_words source.Number = refl
source_words source.Default = refl

pub possibility_words : (p : Possibility) → word_of 2 (possibility_number p) ≡ Some (possibility_word p)
unfolding word_of
possibility_words possibility.Possible = refl
possibility_words possibility.PossibleLocally = refl
possibility_words possibility.TooShort = refl
possibility_words possibility.TooLong = refl
possibility_words possibility.WrongLength = refl
possibility_words possibility.UnknownCode = refl

pub sameness_words : (s : Sameness) → word_of 3 (sameness_number s) ≡ Some (sameness_word s)
unfolding word_of
sameness_words sameness.Exact = refl
sameness_words sameness.Number = refl
sameness_words sameness.National = refl
sameness_words sameness.End = refl
sameness_words sameness.Different = refl

pub cost_words : (c : Cost) → word_of 4 (cost_number c) ≡ Some (cost_word c)
unfolding word_of
cost_words cost.TollFree = refl
cost_words cost.StandardRate = refl
cost_words cost.PremiumRate = refl
cost_words cost.Unknown = refl

pub refused_words : (e : ParseError) → status_words (refusal_number e) ≡ Some (refusal_words e)
unfolding status_words
refused_words error.NoNumber = refl
refused_words error.InvalidCountryCode = refl
refused_words error.TooShortAfterIdd = refl
refused_words error.TooShortNsn = refl
refused_words error.TooLong = refl
refused_words error.MalformedInteger = refl
refused_words error.Memory = refl
