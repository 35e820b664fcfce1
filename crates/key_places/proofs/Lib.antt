pub mod NewKeys
