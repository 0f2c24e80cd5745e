-- `octets::has` meets its contract.
use Rattle.octets.proofs.names.Class.has.Goals as goal

pub returns-in-Digit : goal.returns-in-Digit
returns-in-Digit c = rw c.in-Digit.is c.is_digit.ensures

pub returns-in-Name : goal.returns-in-Name
returns-in-Name c = rw c.in-Name.is c.is_name_octet.ensures

pub returns-in-LowerName : goal.returns-in-LowerName
returns-in-LowerName c = rw c.in-LowerName.is c.is_lower_name_octet.ensures

pub returns-in-Plain : goal.returns-in-Plain
returns-in-Plain c = rw c.in-Plain.is c.is_plain_octet.ensures

pub returns-in-Text : goal.returns-in-Text
returns-in-Text c = rw c.in-Text.is c.is_text_octet.ensures

pub returns-in-Space : goal.returns-in-Space
returns-in-Space c = rw c.in-Space.is c.is_space.ensures

pub returns-in-Unescaped : goal.returns-in-Unescaped
returns-in-Unescaped c = rw c.in-Unescaped.is c.is_unescaped.ensures

pub returns-in-AsIs : goal.returns-in-AsIs
returns-in-AsIs c = rw c.in-AsIs.is c.is_as_is.ensures

pub returns-in-TextBare : goal.returns-in-TextBare
returns-in-TextBare c = rw c.in-TextBare.is c.is_text_bare.ensures

pub returns-in-TextAsIs : goal.returns-in-TextAsIs
returns-in-TextAsIs c = rw c.in-TextAsIs.is c.is_text_as_is.ensures

pub returns-in-Safe : goal.returns-in-Safe
returns-in-Safe c = rw c.in-Safe.is c.is_safe.ensures

pub returns-in-CaretFree : goal.returns-in-CaretFree
returns-in-CaretFree c = rw c.in-CaretFree.is c.is_caret_free.ensures

pub returns-in-ParamAsIs : goal.returns-in-ParamAsIs
returns-in-ParamAsIs c = rw c.in-ParamAsIs.is c.is_param_as_is.ensures
