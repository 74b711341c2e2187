-- The keywords of ASN.1 that modules of the subset use (X.680 clause 12.38). A word is a keyword where it is spelt exactly so.
use Rattle.std.specs.Prelude.{ℕ, List, codes}
use Rattle.og_lexer.specs.declared.AsnKeyword.{AsnKeyword}
use Rattle.og_lexer.specs.declared.AsnKeyword.TheVariants as keyword

-- the keyword in capitals
unfoldable pub asn_keyword_text : AsnKeyword → List ℕ
asn_keyword_text keyword.Automatic = codes "AUTOMATIC"
asn_keyword_text keyword.Begin = codes "BEGIN"
asn_keyword_text keyword.Bit = codes "BIT"
asn_keyword_text keyword.Boolean = codes "BOOLEAN"
asn_keyword_text keyword.Choice = codes "CHOICE"
asn_keyword_text keyword.Default = codes "DEFAULT"
asn_keyword_text keyword.Definitions = codes "DEFINITIONS"
asn_keyword_text keyword.End = codes "END"
asn_keyword_text keyword.Enumerated = codes "ENUMERATED"
asn_keyword_text keyword.Explicit = codes "EXPLICIT"
asn_keyword_text keyword.Exports = codes "EXPORTS"
asn_keyword_text keyword.False = codes "FALSE"
asn_keyword_text keyword.From = codes "FROM"
asn_keyword_text keyword.Identifier = codes "IDENTIFIER"
asn_keyword_text keyword.Implicit = codes "IMPLICIT"
asn_keyword_text keyword.Imports = codes "IMPORTS"
asn_keyword_text keyword.Integer = codes "INTEGER"
asn_keyword_text keyword.Null = codes "NULL"
asn_keyword_text keyword.Object = codes "OBJECT"
asn_keyword_text keyword.Octet = codes "OCTET"
asn_keyword_text keyword.Of = codes "OF"
asn_keyword_text keyword.Optional = codes "OPTIONAL"
asn_keyword_text keyword.Real = codes "REAL"
asn_keyword_text keyword.Sequence = codes "SEQUENCE"
asn_keyword_text keyword.Set = codes "SET"
asn_keyword_text keyword.Size = codes "SIZE"
asn_keyword_text keyword.String = codes "STRING"
asn_keyword_text keyword.Tags = codes "TAGS"
asn_keyword_text keyword.True = codes "TRUE"
