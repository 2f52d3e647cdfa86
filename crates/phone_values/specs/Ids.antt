-- The text of each region's id: after the original's `country`, and mostly ISO 3166.
use Rattle.std.specs.Prelude.{ℕ, List, codes, Option}
use Rattle.std.specs.List.{find}
use Rattle.std.specs.Str.{bytes_eq}
use Rattle.phone_values.specs.declared.country.Id.{Id}
use Rattle.phone_values.specs.declared.country.Id.TheVariants.{AC, AD, AE, AF, AG, AI, AL, AM, AO}
use Rattle.phone_values.specs.declared.country.Id.TheVariants.{AR}
use Rattle.phone_values.specs.declared.country.Id.TheVariants.{AS, AT, AU, AW, AX, AZ, BA, BB, BD}
use Rattle.phone_values.specs.declared.country.Id.TheVariants.{BE}
use Rattle.phone_values.specs.declared.country.Id.TheVariants.{BF, BG, BH, BI, BJ, BL, BM, BN, BO}
use Rattle.phone_values.specs.declared.country.Id.TheVariants.{BQ}
use Rattle.phone_values.specs.declared.country.Id.TheVariants.{BR, BS, BT, BW, BY, BZ, CA, CC, CD}
use Rattle.phone_values.specs.declared.country.Id.TheVariants.{CF}
use Rattle.phone_values.specs.declared.country.Id.TheVariants.{CG, CH, CI, CK, CL, CM, CN, CO, CR}
use Rattle.phone_values.specs.declared.country.Id.TheVariants.{CU}
use Rattle.phone_values.specs.declared.country.Id.TheVariants.{CV, CW, CX, CY, CZ, DE, DJ, DK, DM}
use Rattle.phone_values.specs.declared.country.Id.TheVariants.{DO}
use Rattle.phone_values.specs.declared.country.Id.TheVariants.{DZ, EC, EE, EG, EH, ER, ES, ET, FI}
use Rattle.phone_values.specs.declared.country.Id.TheVariants.{FJ}
use Rattle.phone_values.specs.declared.country.Id.TheVariants.{FK, FM, FO, FR, GA, GB, GD, GE, GF}
use Rattle.phone_values.specs.declared.country.Id.TheVariants.{GG}
use Rattle.phone_values.specs.declared.country.Id.TheVariants.{GH, GI, GL, GM, GN, GP, GQ, GR, GT}
use Rattle.phone_values.specs.declared.country.Id.TheVariants.{GU}
use Rattle.phone_values.specs.declared.country.Id.TheVariants.{GW, GY, HK, HN, HR, HT, HU, ID, IE}
use Rattle.phone_values.specs.declared.country.Id.TheVariants.{IL}
use Rattle.phone_values.specs.declared.country.Id.TheVariants.{IM, IN, IO, IQ, IR, IS, IT, JE, JM}
use Rattle.phone_values.specs.declared.country.Id.TheVariants.{JO}
use Rattle.phone_values.specs.declared.country.Id.TheVariants.{JP, KE, KG, KH, KI, KM, KN, KP, KR}
use Rattle.phone_values.specs.declared.country.Id.TheVariants.{KW}
use Rattle.phone_values.specs.declared.country.Id.TheVariants.{KY, KZ, LA, LB, LC, LI, LK, LR, LS}
use Rattle.phone_values.specs.declared.country.Id.TheVariants.{LT}
use Rattle.phone_values.specs.declared.country.Id.TheVariants.{LU, LV, LY, MA, MC, MD, ME, MF, MG}
use Rattle.phone_values.specs.declared.country.Id.TheVariants.{MH}
use Rattle.phone_values.specs.declared.country.Id.TheVariants.{MK, ML, MM, MN, MO, MP, MQ, MR, MS}
use Rattle.phone_values.specs.declared.country.Id.TheVariants.{MT}
use Rattle.phone_values.specs.declared.country.Id.TheVariants.{MU, MV, MW, MX, MY, MZ, NA, NC, NE}
use Rattle.phone_values.specs.declared.country.Id.TheVariants.{NF}
use Rattle.phone_values.specs.declared.country.Id.TheVariants.{NG, NI, NL, NO, NP, NR, NU, NZ, OM}
use Rattle.phone_values.specs.declared.country.Id.TheVariants.{PA}
use Rattle.phone_values.specs.declared.country.Id.TheVariants.{PE, PF, PG, PH, PK, PL, PM, PR, PS}
use Rattle.phone_values.specs.declared.country.Id.TheVariants.{PT}
use Rattle.phone_values.specs.declared.country.Id.TheVariants.{PW, PY, QA, RE, RO, RS, RU, RW, SA}
use Rattle.phone_values.specs.declared.country.Id.TheVariants.{SB}
use Rattle.phone_values.specs.declared.country.Id.TheVariants.{SC, SD, SE, SG, SH, SI, SJ, SK, SL}
use Rattle.phone_values.specs.declared.country.Id.TheVariants.{SM}
use Rattle.phone_values.specs.declared.country.Id.TheVariants.{SN, SO, SR, SS, ST, SV, SX, SY, SZ}
use Rattle.phone_values.specs.declared.country.Id.TheVariants.{TA}
use Rattle.phone_values.specs.declared.country.Id.TheVariants.{TC, TD, TG, TH, TJ, TK, TL, TM, TN}
use Rattle.phone_values.specs.declared.country.Id.TheVariants.{TO}
use Rattle.phone_values.specs.declared.country.Id.TheVariants.{TR, TT, TV, TW, TZ, UA, UG, US, UY}
use Rattle.phone_values.specs.declared.country.Id.TheVariants.{UZ}
use Rattle.phone_values.specs.declared.country.Id.TheVariants.{VA, VC, VE, VG, VI, VN, VU, WF, WS}
use Rattle.phone_values.specs.declared.country.Id.TheVariants.{XK}
use Rattle.phone_values.specs.declared.country.Id.TheVariants.{YE, YT, ZA, ZM, ZW}
use Rattle.phone_values.specs.declared.country.TheConstants.{ALL}

-- an id is written as its name
unfoldable pub name : Id → List ℕ
name AC = codes "AC"
name AD = codes "AD"
name AE = codes "AE"
name AF = codes "AF"
name AG = codes "AG"
name AI = codes "AI"
name AL = codes "AL"
name AM = codes "AM"
name AO = codes "AO"
name AR = codes "AR"
name AS = codes "AS"
name AT = codes "AT"
name AU = codes "AU"
name AW = codes "AW"
name AX = codes "AX"
name AZ = codes "AZ"
name BA = codes "BA"
name BB = codes "BB"
name BD = codes "BD"
name BE = codes "BE"
name BF = codes "BF"
name BG = codes "BG"
name BH = codes "BH"
name BI = codes "BI"
name BJ = codes "BJ"
name BL = codes "BL"
name BM = codes "BM"
name BN = codes "BN"
name BO = codes "BO"
name BQ = codes "BQ"
name BR = codes "BR"
name BS = codes "BS"
name BT = codes "BT"
name BW = codes "BW"
name BY = codes "BY"
name BZ = codes "BZ"
name CA = codes "CA"
name CC = codes "CC"
name CD = codes "CD"
name CF = codes "CF"
name CG = codes "CG"
name CH = codes "CH"
name CI = codes "CI"
name CK = codes "CK"
name CL = codes "CL"
name CM = codes "CM"
name CN = codes "CN"
name CO = codes "CO"
name CR = codes "CR"
name CU = codes "CU"
name CV = codes "CV"
name CW = codes "CW"
name CX = codes "CX"
name CY = codes "CY"
name CZ = codes "CZ"
name DE = codes "DE"
name DJ = codes "DJ"
name DK = codes "DK"
name DM = codes "DM"
name DO = codes "DO"
name DZ = codes "DZ"
name EC = codes "EC"
name EE = codes "EE"
name EG = codes "EG"
name EH = codes "EH"
name ER = codes "ER"
name ES = codes "ES"
name ET = codes "ET"
name FI = codes "FI"
name FJ = codes "FJ"
name FK = codes "FK"
name FM = codes "FM"
name FO = codes "FO"
name FR = codes "FR"
name GA = codes "GA"
name GB = codes "GB"
name GD = codes "GD"
name GE = codes "GE"
name GF = codes "GF"
name GG = codes "GG"
name GH = codes "GH"
name GI = codes "GI"
name GL = codes "GL"
name GM = codes "GM"
name GN = codes "GN"
name GP = codes "GP"
name GQ = codes "GQ"
name GR = codes "GR"
name GT = codes "GT"
name GU = codes "GU"
name GW = codes "GW"
name GY = codes "GY"
name HK = codes "HK"
name HN = codes "HN"
name HR = codes "HR"
name HT = codes "HT"
name HU = codes "HU"
name ID = codes "ID"
name IE = codes "IE"
name IL = codes "IL"
name IM = codes "IM"
name IN = codes "IN"
name IO = codes "IO"
name IQ = codes "IQ"
name IR = codes "IR"
name IS = codes "IS"
name IT = codes "IT"
name JE = codes "JE"
name JM = codes "JM"
name JO = codes "JO"
name JP = codes "JP"
name KE = codes "KE"
name KG = codes "KG"
name KH = codes "KH"
name KI = codes "KI"
name KM = codes "KM"
name KN = codes "KN"
name KP = codes "KP"
name KR = codes "KR"
name KW = codes "KW"
name KY = codes "KY"
name KZ = codes "KZ"
name LA = codes "LA"
name LB = codes "LB"
name LC = codes "LC"
name LI = codes "LI"
name LK = codes "LK"
name LR = codes "LR"
name LS = codes "LS"
name LT = codes "LT"
name LU = codes "LU"
name LV = codes "LV"
name LY = codes "LY"
name MA = codes "MA"
name MC = codes "MC"
name MD = codes "MD"
name ME = codes "ME"
name MF = codes "MF"
name MG = codes "MG"
name MH = codes "MH"
name MK = codes "MK"
name ML = codes "ML"
name MM = codes "MM"
name MN = codes "MN"
name MO = codes "MO"
name MP = codes "MP"
name MQ = codes "MQ"
name MR = codes "MR"
name MS = codes "MS"
name MT = codes "MT"
name MU = codes "MU"
name MV = codes "MV"
name MW = codes "MW"
name MX = codes "MX"
name MY = codes "MY"
name MZ = codes "MZ"
name NA = codes "NA"
name NC = codes "NC"
name NE = codes "NE"
name NF = codes "NF"
name NG = codes "NG"
name NI = codes "NI"
name NL = codes "NL"
name NO = codes "NO"
name NP = codes "NP"
name NR = codes "NR"
name NU = codes "NU"
name NZ = codes "NZ"
name OM = codes "OM"
name PA = codes "PA"
name PE = codes "PE"
name PF = codes "PF"
name PG = codes "PG"
name PH = codes "PH"
name PK = codes "PK"
name PL = codes "PL"
name PM = codes "PM"
name PR = codes "PR"
name PS = codes "PS"
name PT = codes "PT"
name PW = codes "PW"
name PY = codes "PY"
name QA = codes "QA"
name RE = codes "RE"
name RO = codes "RO"
name RS = codes "RS"
name RU = codes "RU"
name RW = codes "RW"
name SA = codes "SA"
name SB = codes "SB"
name SC = codes "SC"
name SD = codes "SD"
name SE = codes "SE"
name SG = codes "SG"
name SH = codes "SH"
name SI = codes "SI"
name SJ = codes "SJ"
name SK = codes "SK"
name SL = codes "SL"
name SM = codes "SM"
name SN = codes "SN"
name SO = codes "SO"
name SR = codes "SR"
name SS = codes "SS"
name ST = codes "ST"
name SV = codes "SV"
name SX = codes "SX"
name SY = codes "SY"
name SZ = codes "SZ"
name TA = codes "TA"
name TC = codes "TC"
name TD = codes "TD"
name TG = codes "TG"
name TH = codes "TH"
name TJ = codes "TJ"
name TK = codes "TK"
name TL = codes "TL"
name TM = codes "TM"
name TN = codes "TN"
name TO = codes "TO"
name TR = codes "TR"
name TT = codes "TT"
name TV = codes "TV"
name TW = codes "TW"
name TZ = codes "TZ"
name UA = codes "UA"
name UG = codes "UG"
name US = codes "US"
name UY = codes "UY"
name UZ = codes "UZ"
name VA = codes "VA"
name VC = codes "VC"
name VE = codes "VE"
name VG = codes "VG"
name VI = codes "VI"
name VN = codes "VN"
name VU = codes "VU"
name WF = codes "WF"
name WS = codes "WS"
name XK = codes "XK"
name YE = codes "YE"
name YT = codes "YT"
name ZA = codes "ZA"
name ZM = codes "ZM"
name ZW = codes "ZW"

-- a text is read as the id that is written so
unfoldable pub id_of : List ℕ → Option Id
id_of text = find (λ id. bytes_eq (name id) text) ALL
