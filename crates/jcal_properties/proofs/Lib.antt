pub mod PropertyParts
