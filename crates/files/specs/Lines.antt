-- How a refusal is written: its number, its place, and what is wrong in words.
use Rattle.std.specs.Prelude.{ℕ, List, ◌++◌, codes, decimal}
use Rattle.files.specs.declared.refusal.ReadRefusal.{ReadRefusal}
use Rattle.files.specs.declared.refusal.ReadRefusal.TheVariants.{Short, Length, OtherKind, Sections, Discount, Whole, Bands, Routes, Row, Mask}
use Rattle.files.specs.Refusals.{number, place}

abbrev pub words : ReadRefusal → List ℕ
words (Short size) = codes "the file has fewer than 16 bytes"
words Length = codes "the length field is not the size of the file"
words OtherKind = codes "the file holds another kind of chart"
words Sections = codes "the number of sections is not from 1 to 32"
words Discount = codes "the discount a / b does not have 1 <= a < b <= 1000"
words Whole = codes "P is not from 1 to 10,000, or in a choice chart not 0"
words Bands = codes "the bands do not lie in the file"
words Routes = codes "the routes do not lie in the file, or share a byte with the bands"
words (Row section) = codes "a row does not add up to the whole"
words (Mask section) = codes "a mask is 0, or marks a section that the chart has not"

abbrev pub line : ReadRefusal → List ℕ
line e = decimal (number e) ++ (codes " " ++ (decimal (place e) ++ (codes " (" ++ (words e ++ codes ")"))))
